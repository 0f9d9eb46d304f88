-- An input that was read whole, or up to where it is too large.
use Rattle.std.proofs.Common.{◌≡◌, ◌≤◌, ◌<◌, ◌++◌, ◌∙◌, List, ℕ, Option, None, Some, ap, append-nil, arith, drop, length, length-append, sym, take}
use Rattle.std.specs.Prelude.{IfSome}
use Rattle.std.specs.Io.KnownBytes.{Consumes, IsAtEnd}
use Rattle.gn_io.specs.Counts.{RisesBeyond, count_more}
use Rattle.gn_io.specs.Streams.{foreknown_or_told}
use Rattle.std.proofs.Math.Seq.{drop-append_seam}
use Rattle.std.proofs.lemmas.Grind.{common_steps}

-- what was told since
told_since : (old new input : List ℕ) → new ≡ old ++ input → drop (length old) new ≡ input
told_since old new input is = ap (drop (length old)) is ∙ drop-append_seam old input

-- the last read gave none, and the reads before it gave the input
pub read_whole : (first mid last : Option (List ℕ)) (old now new input room : List ℕ) (n : ℕ) → Consumes first mid input → Consumes mid last (take n room) → n ≡ 0 → IsAtEnd last
    → now ≡ old ++ input → new ≡ now ++ take n room → IfSome (foreknown_or_told first (drop (length old) new)) (λ bytes. input ≡ bytes)
read_whole None mid last old now new input room n h k none end is more = sym (told_since old new input (more ∙ (ap (λ m. now ++ take m room) none ∙ (append-nil now ∙ is))))
read_whole (Some xs) None last old now new input room n h k none end is more = absurd h
read_whole (Some xs) (Some ys) None old now new input room n h k none end is more = absurd k
read_whole (Some xs) (Some ys) (Some zs) old now new input room n h k none end is more =
    sym (h ∙ (ap (λ rest. input ++ rest) (k ∙ (ap (λ m. take m room ++ zs) none ∙ end)) ∙ append-nil input))

-- the reads gave more than so many
pub read_more : (first now : Option (List ℕ)) (old new input : List ℕ) (n : ℕ) → Consumes first now input → new ≡ old ++ input → n < length input
    → IfSome (foreknown_or_told first (drop (length old) new)) (λ bytes. n < length bytes)
read_more None now old new input n h is more = omega (arith, ap length (told_since old new input is), more)
read_more (Some xs) None old new input n h is more = absurd h
read_more (Some xs) (Some ys) old new input n h is more = omega (arith, ap length h, length-append input ys, more)

-- the count of bytes given says so, too
pub given_beyond : (old new many n : ℕ) → count_more many old ≤ new → n < many → RisesBeyond n old new
given_beyond old new many n h more = grind (arith, common_steps)
