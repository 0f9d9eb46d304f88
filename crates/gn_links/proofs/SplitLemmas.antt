-- A list whose first so many elements are gone, and what was made of those.
use Rattle.std.proofs.Common.{◌≡◌, ℕ, suc, zero, ◌+◌, List, [], ◌∷◌, ◌++◌, drop, length, map, ap, arith, subst, sym, ◌∙◌, Some}
use Rattle.std.specs.Prelude.{Bool, true}
use Rattle.std.specs.List.{slice_get}
use Rattle.std.specs.Option.{option_map}
use Rattle.std.proofs.lemmas.List.{append-nil, append_assoc, map-append, nil_from_length}
use Rattle.std.proofs.lemmas.Option.{slice_get-map}

-- the first that is left stands there
pub drop_here : {X : Type 0} (xs ys : List X) (n : ℕ) (x : X) → drop n xs ≡ x ∷ ys → slice_get xs n ≡ Some x
drop_here [] ys zero x is = cc
drop_here [] ys (suc n) x is = cc
drop_here (z ∷ xs) ys zero x is = cc
drop_here (z ∷ xs) ys (suc n) x is = drop_here xs ys n x is

-- and the others are left after it
pub drop_next : {X : Type 0} (xs ys : List X) (n : ℕ) (x : X) → drop n xs ≡ x ∷ ys → drop (n + 1) xs ≡ ys
drop_next [] ys zero x is = cc
drop_next [] ys (suc n) x is = cc
drop_next (z ∷ xs) ys zero x is = cc
drop_next (z ∷ xs) ys (suc n) x is = let more : suc n + 1 ≡ suc (n + 1) = omega arith in subst (λ k. drop k (z ∷ xs) ≡ ys) (sym more) (drop_next xs ys n x is)

-- what is known of the first that is left is known there
pub known_here : {X : Type 0} (p : X → Bool) (xs ys : List X) (n : ℕ) (x : X) → drop n xs ≡ x ∷ ys → p x ≡ true → slice_get (map p xs) n ≡ Some true
known_here p xs ys n x is holds = slice_get-map p xs n ∙ ap (λ o. option_map p o) (drop_here xs ys n x is) ∙ ap Some holds

-- nothing is made yet, and all are left
pub none_made : {X Z : Type 0} (k : X → Z) (made : List Z) (left all : List X) → made ≡ [] → left ≡ all → made ++ map k left ≡ map k all
none_made k made left all none whole = ap (λ zs. zs ++ map k left) none ∙ ap (λ xs. map k xs) whole

-- the same of what is said of each thing that is made
pub none_said : {X Y Z : Type 0} (f : Y → Z) (k : X → Z) (made : List Y) (left all : List X) → made ≡ [] → left ≡ all → map f made ++ map k left ≡ map k all
none_said f k made left all none whole = none_made k (map f made) left all (ap (λ ys. map f ys) none) whole

-- the first that is left is taken, and one thing is made of it
pub one_made : {X Z : Type 0} (k : X → Z) (before after : List Z) (left rest : List X) (x : X) (z : Z) (all : List Z) → after ≡ before ++ z ∷ [] → z ≡ k x → left ≡ x ∷ rest
    → before ++ map k left ≡ all → after ++ map k rest ≡ all
one_made k before after left rest x z all more is next was =
    ap (λ zs. zs ++ map k rest) (more ∙ ap (λ y. before ++ y ∷ []) is) ∙ append_assoc before (k x ∷ []) (map k rest) ∙ ap (λ xs. before ++ map k xs) (sym next) ∙ was

-- the same of what is said of each thing that is made
pub one_said : {X Y Z : Type 0} (f : Y → Z) (k : X → Z) (before after : List Y) (left rest : List X) (x : X) (y : Y) (all : List Z) → after ≡ before ++ y ∷ [] → f y ≡ k x → left ≡ x ∷ rest
    → map f before ++ map k left ≡ all → map f after ++ map k rest ≡ all
one_said f k before after left rest x y all more is next was =
    one_made k (map f before) (map f after) left rest x (f y) all (ap (λ ys. map f ys) more ∙ map-append f before (y ∷ [])) is next was

-- none is left
pub all_made : {X Z : Type 0} (k : X → Z) (made : List Z) (left : List X) (all : List Z) → length left ≡ 0 → made ++ map k left ≡ all → made ≡ all
all_made k made left all none was = sym (append-nil made) ∙ ap (λ xs. made ++ map k xs) (sym (nil_from_length left none)) ∙ was
