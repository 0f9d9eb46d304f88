-- The reading of a text is the grammar's.
use Rattle.std.proofs.Common.{◌≡◌, ℕ, ◌<◌, Bool, true, false, cond, ◌==◌, List, [], ◌∷◌, ◌++◌, Option, Some, None, option_map, refl, ap, ◌∙◌, arith}
use Rattle.std.proofs.lemmas.Bool.Decides.{nat_tests}
use Rattle.std.proofs.lemmas.Option.{some_pair_parts, none-some}
use Rattle.gn_payload.specs.Grammar.{IsText, IsEnded}
use Rattle.gn_payload.specs.Reading.{text_reading}

not_zero : (b : ℕ) → 0 < b → (b == 0) ≡ false
not_zero b h = grind (arith, nat_tests)

-- a text, a zero byte and more are read so
pub text_read : (text rest : List ℕ) → IsText text → text_reading (text ++ 0 ∷ rest) ≡ Some (text, rest)
text_read [] rest h = refl
text_read (b ∷ bs) rest h =
    ap (λ (t : Bool). cond t (Some ([], bs ++ 0 ∷ rest)) (option_map (λ x. (b ∷ x.0, x.1)) (text_reading (bs ++ 0 ∷ rest)))) (not_zero b h.0)
    ∙ ap (λ (o : Option (List ℕ × List ℕ)). option_map (λ x. (b ∷ x.0, x.1)) o) (text_read bs rest h.1)

pub ended_read : (bytes text rest : List ℕ) → IsEnded bytes text rest → text_reading bytes ≡ Some (text, rest)
ended_read bytes text rest h = ap text_reading h.encoded ∙ text_read text rest h.nonzero

-- one byte before what is ended so
ended_more : (t : Bool) (b : ℕ) (bs text rest : List ℕ) (o : Option (List ℕ × List ℕ)) → (b == 0) ≡ t
    → ((x y : List ℕ) → o ≡ Some (x, y) → IsEnded bs x y) → cond {A = Option (List ℕ × List ℕ)} t (Some ([], bs)) (option_map (λ x. (b ∷ x.0, x.1)) o) ≡ Some (text, rest) → IsEnded (b ∷ bs) text rest
ended_more true b bs text rest o is all e =
    let parts = some_pair_parts [] text bs rest e in
    let b_is : b ≡ 0 = grind (arith, nat_tests) in
    rw (← parts.0) (record { encoded = rw (b_is, parts.1) refl; nonzero = tt })
ended_more false b bs text rest None is all e = absurd (none-some _ e)
ended_more false b bs text rest (Some (x, y)) is all e =
    let parts = some_pair_parts (b ∷ x) text y rest e in
    let h = all x y refl in
    let above : 0 < b = grind (arith, nat_tests) in
    rw (← parts.0) (record { encoded = ap (λ (z : List ℕ). b ∷ z) h.encoded ∙ rw parts.1 refl; nonzero = (above, h.nonzero) })

-- what is read is a text, a zero byte and more
pub read_ended : (bytes text rest : List ℕ) → text_reading bytes ≡ Some (text, rest) → IsEnded bytes text rest
read_ended [] text rest e = absurd (none-some _ e)
read_ended (b ∷ bs) text rest e = ended_more (b == 0) b bs text rest (text_reading bs) refl (λ x y h. read_ended bs x y h) e
