-- New actors, one by one.
use Rattle.std.proofs.Common.{◌≡◌, ℕ, ◌+◌, ◌<◌, List, [], ◌∷◌, ◌++◌, get_or, sym, ap, ◌∙◌, subst, arith, below_more}
use Rattle.std.proofs.lemmas.List.{get_or_push, get_or_append_left, length_push}
use Rattle.gn_hub.specs.ActorState.{ActorState, AreNew, new_actor}

pub one_more : {A : Type 0} (xs ys : List (ActorState A)) (x : ActorState A) (n m : ℕ) → m ≡ n + 1 → AreNew n xs → x ≡ new_actor n → ys ≡ xs ++ x ∷ [] → AreNew m ys
one_more {A} xs ys x n m e are is grown =
    let each : (k : ℕ) (d : ActorState A) → k < n + 1 → get_or (xs ++ x ∷ []) k d ≡ new_actor k =
    λ k d below. below_more (λ i. get_or (xs ++ x ∷ []) i d ≡ new_actor i) n
    (λ i low. let long = are.long in get_or_append_left xs (x ∷ []) d i (omega arith) ∙ are.each i d low) (get_or_push xs x d n are.long ∙ is) k below in
    let all : AreNew (n + 1) (xs ++ x ∷ []) = record { long = length_push xs x ∙ ap (λ w. w + 1) are.long; each = each } in
    subst (λ w. AreNew w ys) (sym e) (subst (λ w. AreNew (n + 1) w) (sym grown) all)
