-- What the reader of texts gives, as the definitions say it.
use Rattle.std.proofs.lemmas.Str.{is_utf8-from_IsUtf8, IsUtf8-from_is_utf8}

-- bytes are UTF-8 where the test says so
pub ruleset utf8_tests = (is_utf8-from_IsUtf8, IsUtf8-from_is_utf8)
