-- What a reader over memory gives.
use Rattle.std.proofs.Common.{◌≡◌, ℕ, ◌+◌, ◌<◌, Bool, List, ◌++◌, take, drop, ap, ◌∙◌, sym}
use Rattle.std.proofs.Math.Seq.{drop-length, take-add}
use Rattle.std.proofs.lemmas.List.{take-append-drop}
use Rattle.std.proofs.lemmas.List.Elements.{All-take}
use Rattle.gn_links.specs.Halves.{IsReadOf}
use Rattle.gn_links.specs.Memory.{IsGiving}

-- all that was given, with one piece more, is a prefix again
pub given_more : (bytes piece : List ℕ) (given n : ℕ) → piece ≡ take n (drop given bytes)
    → take (given + n) bytes ≡ take given bytes ++ piece
given_more bytes piece given n e = take-add given n bytes ∙ ap (λ p. take given bytes ++ p) (sym e)

-- what was given are the first of all bytes, and all where a reader that ended had given all
pub given_of_all : (bytes : List ℕ) (given : ℕ) (ended : Bool) → IsGiving bytes given ended
    → IsReadOf bytes (take given bytes) ended
given_of_all bytes given ended is =
    record {
      octets = All-take (λ b. b < 256) given bytes is.octets;
      rest = drop given bytes;
      whole = sym (take-append-drop given bytes);
      ended = λ e. ap (λ n. drop n bytes) (is.ended e) ∙ drop-length bytes;
    }
