-- What a list has of those of which there is something.
use Rattle.std.proofs.Common.{◌≡◌, ◌≤◌, ◌<◌, ◌+◌, List, [], ◌∷◌, ◌++◌, length, get_or, take, ℕ, Option, Some, None, append_assoc, refl, sym, ap, ◌∙◌, arith}
use mathlib.Core.List.{append-nil}
use Rattle.std.specs.List.{filter_map}
use Rattle.std.specs.Option.{option_to_list}
use Rattle.std.proofs.lemmas.List.{take_all, take_more}
use Rattle.std.proofs.lemmas.List.Elements.{filter_map-append}

module _ {X Y : Type 0} (h : X → Option Y) where
  -- the first, and then those of the others
  mapped_first : (x : X) (xs : List X) → filter_map h (x ∷ xs) ≡ option_to_list (h x) ++ filter_map h xs
  mapped_first x xs =
      elim (h x) as (λ o. h x ≡ o → filter_map h (x ∷ xs) ≡ option_to_list o ++ filter_map h xs) [
        | None ↦ λ is. rw is refl
        | Some y ↦ λ is. rw is refl
      ] refl

  -- one more was looked at
  pub mapped_more : (made after : List Y) (xs : List X) (i : ℕ) (x : X) → i < length xs → x ≡ get_or xs i x → made ≡ filter_map h (take i xs) → after ≡ made ++ option_to_list (h x) → after ≡ filter_map h (take (i + 1) xs)
  mapped_more made after xs i x below is was now =
      let one : take (i + 1) xs ≡ take i xs ++ x ∷ [] = take_more xs i x below ∙ ap (λ y. take i xs ++ y ∷ []) (sym is) in
      let last : filter_map h (x ∷ []) ≡ option_to_list (h x) = mapped_first x [] ∙ append-nil (option_to_list (h x)) in
      now ∙ ap (λ ys. ys ++ option_to_list (h x)) was ∙ ap (λ ys. filter_map h (take i xs) ++ ys) (sym last) ∙ sym (filter_map-append h (take i xs) (x ∷ [])) ∙ ap (filter_map h) (sym one)

  -- all were looked at
  pub mapped_whole : (made : List Y) (xs : List X) (i : ℕ) → length xs ≤ i → made ≡ filter_map h (take i xs) → made ≡ filter_map h xs
  mapped_whole made xs i past was = was ∙ ap (filter_map h) (take_all i xs past)

  -- one of those that are left was taken
  pub mapped_on : (made after : List Y) (rest left : List X) (all : List Y) (x : X) → rest ≡ x ∷ left → made ++ filter_map h rest ≡ all → after ≡ made ++ option_to_list (h x) → after ++ filter_map h left ≡ all
  mapped_on made after rest left all x is was now =
      ap (λ ys. ys ++ filter_map h left) now ∙ append_assoc made (option_to_list (h x)) (filter_map h left) ∙ ap (λ ys. made ++ ys) (sym (mapped_first x left) ∙ ap (filter_map h) (sym is)) ∙ was

  -- none are left
  pub mapped_all : (made : List Y) (rest : List X) (all : List Y) → length rest ≡ 0 → made ++ filter_map h rest ≡ all → made ≡ all
  mapped_all made [] all none was = sym (append-nil made) ∙ was
  mapped_all made (x ∷ rest) all none was = absurd (omega (arith, none))
