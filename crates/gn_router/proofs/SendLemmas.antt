-- Sends that are added one after the other.
use Rattle.std.proofs.Common.{◌≡◌, List, [], ◌∷◌, ◌++◌, sym, ap, ◌∙◌, append_assoc}
use Rattle.std.specs.List.{fold}
use Rattle.std.proofs.lemmas.List.{append-nil}

all_added : {X : Type 0} (xs ys : List X) → fold (λ zs z. zs ++ z ∷ []) xs ys ≡ xs ++ ys
all_added xs [] = sym (append-nil xs)
all_added xs (y ∷ ys) = all_added (xs ++ y ∷ []) ys ∙ append_assoc xs (y ∷ []) ys

-- items that are added one after the other to none are all there is
pub all_made : {X : Type 0} (first items all : List X) → first ≡ [] → all ≡ fold (λ zs z. zs ++ z ∷ []) first items → all ≡ items
all_made first items all none all_is = all_is ∙ ap (λ zs. fold (λ ys y. ys ++ y ∷ []) zs items) none ∙ all_added [] items
