-- Actors that have called nothing.
use Rattle.std.proofs.Common.{◌≡◌, ◌<◌, ◌++◌, ℕ, List, [], Option, length, ap, arith}
use Rattle.std.specs.Prelude.{IfSome}
use Rattle.std.specs.List.{All}
use Rattle.std.specs.Option.{option_to_list}
use Rattle.std.proofs.lemmas.List.Elements.{All-from_get_or, All-pop}
use Rattle.gn_hub.specs.ActorState.{ActorState, AreNew, new_actor}

-- they have no receipts
have_none : {A : Type 0} (count : ℕ) (actors : List (ActorState A)) → AreNew count actors → All (λ actor. actor.receipts ≡ []) actors
have_none {A} count actors new =
    let d : ActorState A = new_actor 0 in
    All-from_get_or (λ (actor : ActorState A). actor.receipts ≡ []) actors d (λ k below. ap (λ (actor : ActorState A). actor.receipts) (new.each k d (omega (arith, below, new.long))))

-- where the last of actors without receipts is taken out, those that are left have none
pub left_none : {A : Type 0} (actors left : List (ActorState A)) (last : Option (ActorState A)) → actors ≡ left ++ option_to_list last
    → All (λ actor. actor.receipts ≡ []) actors → All (λ actor. actor.receipts ≡ []) left
left_none {A} actors left last parts none = (All-pop (λ (actor : ActorState A). actor.receipts ≡ []) actors left last parts none).0

-- nor has the last
pub last_none : {A : Type 0} (actors left : List (ActorState A)) (last : Option (ActorState A)) → actors ≡ left ++ option_to_list last
    → All (λ actor. actor.receipts ≡ []) actors → IfSome last (λ actor. actor.receipts ≡ [])
last_none {A} actors left last parts none = (All-pop (λ (actor : ActorState A). actor.receipts ≡ []) actors left last parts none).1

-- where the last of new actors is taken out, those that are left have none
pub new_left : {A : Type 0} (count : ℕ) (actors left : List (ActorState A)) (last : Option (ActorState A)) → AreNew count actors
    → actors ≡ left ++ option_to_list last → All (λ actor. actor.receipts ≡ []) left
new_left count actors left last new parts = left_none actors left last parts (have_none count actors new)
