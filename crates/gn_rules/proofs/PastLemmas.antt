-- A walk over a history, from the first step on.
use Rattle.std.proofs.Common.{◌≡◌, ℕ, ◌+◌, ◌<◌, List, [], ◌∷◌, ◌++◌, length, get_or, take, reverse, sym, ap, ◌∙◌, arith, min}
use Rattle.std.proofs.lemmas.List.{take_more, reverse-append, length-reverse}

-- the past has one step more
pub past_more : {X : Type 0} (xs : List X) (i : ℕ) (x : X) → i < length xs → x ≡ get_or xs i x → reverse (take (i + 1) xs) ≡ x ∷ reverse (take i xs)
past_more xs i x h e =
    ap reverse (take_more xs i x h) ∙ reverse-append (take i xs) (get_or xs i x ∷ []) ∙ ap (λ y. y ∷ reverse (take i xs)) (sym e)

pub past_length : {X : Type 0} (xs : List X) → length (reverse xs) ≡ length xs
past_length xs = length-reverse xs

-- a step at the end is the newest
pub past_push : {X : Type 0} (xs : List X) (x : X) → reverse (xs ++ x ∷ []) ≡ x ∷ reverse xs
past_push xs x = reverse-append xs (x ∷ [])

-- a count that stops at m, after b more
pub min_more : (m a b : ℕ) → min m (min m a + b) ≡ min m (a + b)
min_more m a b = omega arith
