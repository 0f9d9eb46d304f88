-- A text that ends at the first zero byte.
use Rattle.std.proofs.Common.{◌≡◌, ℕ, suc, ◌+◌, ◌-◌, Bool, true, false, not, cond, nat_lt, ◌==◌, List, [], ◌∷◌, length, take, drop, Option, Some, None, option_map, refl, ap, ◌∙◌, arith}
use Rattle.std.specs.List.{position, position_or_len}
use Rattle.std.proofs.lemmas.Grind.{common_steps}
use Rattle.std.proofs.lemmas.Bool.Decides.{nat_tests}
use Rattle.gn_payload.specs.Reading.{text_reading}

-- what stands before and after a place
abbrev pub around : List ℕ → ℕ → List ℕ × List ℕ
around bytes k = (take k bytes, drop (k + 1) bytes)

-- a place, where the list has it
abbrev place : ℕ → ℕ → Option ℕ
place k n = cond (nat_lt k n) (Some k) None

-- one byte more first
further : (b : ℕ) (bs : List ℕ) (k : ℕ) → Some (b ∷ take k bs, drop (k + 1) bs) ≡ Some (around (b ∷ bs) (1 + k))
further b bs k = grind (arith, common_steps)

moved : (b : ℕ) (bs : List ℕ) (k n : ℕ) → option_map (λ x. (b ∷ x.0, x.1)) (option_map (around bs) (place k n)) ≡ option_map (around (b ∷ bs)) (place (1 + k) (suc n))
moved b bs k n = grind (arith, nat_tests, further)

stepped : (t : Bool) (b : ℕ) (bs : List ℕ) (k : ℕ) (r : Option (List ℕ × List ℕ)) → r ≡ option_map (around bs) (place k (length bs))
    → cond t (Some ([], bs)) (option_map (λ x. (b ∷ x.0, x.1)) r) ≡ option_map (around (b ∷ bs)) (place (cond (not t) (1 + k) 0) (length (b ∷ bs)))
stepped true b bs k r e = grind (arith, nat_tests, common_steps)
stepped false b bs k r e = ap (λ y. option_map (λ x. (b ∷ x.0, x.1)) y) e ∙ moved b bs k (length bs)

-- the reading of a text by the place of its end
pub text_by_place : (bytes : List ℕ) → text_reading bytes ≡ option_map (around bytes) (position (λ b. b == 0) bytes)
text_by_place [] = refl
text_by_place (b ∷ bs) = stepped (b == 0) b bs (position_or_len (λ b. b == 0) bs) (text_reading bs) (text_by_place bs)

-- the same where a zero byte was found, as the code cuts there
pub text_found : (bytes : List ℕ) (k : ℕ) → position (λ b. b == 0) bytes ≡ Some k → text_reading bytes ≡ Some (take k bytes, take (length bytes - (k + 1)) (drop (k + 1) bytes))
text_found bytes k e =
    text_by_place bytes ∙ ap (λ (o : Option ℕ). option_map (around bytes) o) e
    ∙ ap (λ (rest : List ℕ). Some (take k bytes, rest)) (grind (arith, common_steps))
