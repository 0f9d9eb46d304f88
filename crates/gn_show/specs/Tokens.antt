-- What is written of a value in JSON, token by token.
use Rattle.std.specs.Prelude.{ℕ, if◌then◌else◌, List, ◌∷◌}
use Rattle.std.specs.Str.{is_utf8}
use Rattle.std.specs.declared.alloc.Global.{Global}
use Rattle.json.specs.Token.{Token, key}
use Rattle.json.specs.Tree.{json_tokens}
use Rattle.serde_json.specs.Data.{Data, string}
use Rattle.serde_json.specs.Written.{outline}
use Rattle.gn_rules.specs.declared.sends.Sending.{Sending}
use Rattle.gn_show.specs.Values.{hex_data, sending_data}

-- the tokens of a value
abbrev pub tokens_of : Data → List Token
tokens_of d = json_tokens (outline d)

-- the tokens of a member of an object
abbrev pub member_tokens : List ℕ → Data → List Token
member_tokens name d = key name ∷ tokens_of d

-- those of a text that is UTF-8 under its name; of the bytes of another in hex, under the other name
abbrev pub text_tokens : List ℕ → List ℕ → List ℕ → List Token
text_tokens name hex_name text =
    if is_utf8 text then member_tokens name (string text) else member_tokens hex_name (hex_data text)

-- the tokens of a send
unfoldable pub sending_tokens : Sending Global → List Token
sending_tokens s = tokens_of (sending_data s)
