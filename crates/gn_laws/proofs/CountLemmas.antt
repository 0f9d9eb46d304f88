-- Counts of the items of a list that pass a test, and lists that count up.
use Rattle.std.proofs.Common.{◌≡◌, ◌≤◌, ◌<◌, ◌+◌, ◌==◌, ℕ, Bool, true, false, cond, List, [], ◌∷◌, length, get_or, reverse, take, refl, sym, ap, ◌∙◌, arith}
use Rattle.std.specs.List.{count_by, list_any}
use Rattle.std.proofs.lemmas.Grind.{common_steps}
use Rattle.std.proofs.lemmas.List.Sums.{sum_by-cons, sum_by_more}
use Rattle.std.proofs.lemmas.List.Sorted.{sum_by-IsPermutation, IsPermutation-reverse}

-- 1 where a test holds
abbrev pub tally : Bool → ℕ
tally b = cond b 1 0

pub count-cons : {X : Type 0} (p : X → Bool) (x : X) (xs : List X) → count_by p (x ∷ xs) ≡ tally (p x) + count_by p xs
count-cons p x xs = sum_by-cons (λ x. cond (p x) 1 0) x xs

pub count_none : {X : Type 0} (p : X → Bool) (xs : List X) → list_any p xs ≡ false → count_by p xs ≡ 0
count_none p [] e = refl
count_none p (x ∷ xs) e = let h = count_none p xs in grind (arith, common_steps, h)

pub count_some : {X : Type 0} (p : X → Bool) (xs : List X) → list_any p xs ≡ true → 1 ≤ count_by p xs
count_some p [] e = cc
count_some p (x ∷ xs) e = let h = count_some p xs in grind (arith, common_steps, h)

pub any_from_count : {X : Type 0} (p : X → Bool) (xs : List X) → 1 ≤ count_by p xs → list_any p xs ≡ true
any_from_count p xs h =
    elim (list_any p xs) as (λ b. list_any p xs ≡ b → b ≡ true) [
      | true ↦ λ e. refl
      | false ↦ λ e. absurd (omega (arith, h, count_none p xs e))
    ] refl

-- a count doesn't go by the order
pub count-reverse : {X : Type 0} (p : X → Bool) (xs : List X) → count_by p (reverse xs) ≡ count_by p xs
count-reverse p xs = sum_by-IsPermutation (λ x. cond (p x) 1 0) xs (reverse xs) (IsPermutation-reverse xs)

pub same_in_both : (a b : ℕ) → (a == b) ≡ (b == a)
same_in_both a b = grind (arith, common_steps)

-- a count one item further
pub count_step : {X : Type 0} (p : X → Bool) (xs : List X) (i : ℕ) (x : X) → i < length xs → x ≡ get_or xs i x → count_by p (take (i + 1) xs) ≡ count_by p (take i xs) + tally (p x)
count_step p xs i x below is = sum_by_more (λ x. tally (p x)) xs i x below ∙ ap (λ y. count_by p (take i xs) + tally (p y)) (sym is)
