-- The actors of a run that have no link come home.
use Rattle.std.specs.Prelude.{◌≡◌, ◌<◌, List, [], ◌∷◌, length, slice_index_or, slice_set}
use Rattle.gn_rules.specs.declared.receipt.Receipt.{Receipt}
use Rattle.gn_actors.specs.ActorState.{ActorState}

-- the lists by number once these actors are home, who come in order
abbrev pub with_all_home : {A : Type 0} → List (List (Receipt A)) → List (ActorState A) → List (List (Receipt A))
with_all_home lists [] = lists
with_all_home lists (me ∷ actors) = with_all_home (slice_set lists me.number me.receipts) actors

-- each of them is out when its turn comes
abbrev pub AreAllOut : {A : Type 0} → List (List (Receipt A)) → List (ActorState A) → Type 0
AreAllOut lists [] = Unit {0}
AreAllOut lists (me ∷ actors) =
    (me.number < length lists) × (slice_index_or lists me.number [] ≡ []) × AreAllOut (slice_set lists me.number me.receipts) actors

-- the receipts of an actor
abbrev pub receipts_in : {A : Type 0} → ActorState A → List (Receipt A)
receipts_in me = me.receipts
