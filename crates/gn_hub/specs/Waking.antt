-- Which threads have to wait, and whom a step may bring what they wait for.
use Rattle.std.specs.Prelude.{◌≡◌, ℕ, Bool, true, false, ◌==◌, ◌&&◌, if◌then◌else◌, List, [], ◌∷◌, ◌++◌}
use Rattle.std.specs.List.{list_any, slice_get}
use Rattle.gn_rules.specs.declared.event.Event.{Event}
use Rattle.gn_rules.specs.declared.event.Event.TheVariants.{Close}
use Rattle.gn_rules.specs.declared.receipt.Receipt.{Receipt}
use Rattle.gn_rules.specs.declared.sends.Sending.{Sending}
use Rattle.gn_rules.specs.History.{sends_of}
use Rattle.gn_hub.specs.declared.mark.Door.TheVariants.{Unmet}
use Rattle.gn_hub.specs.declared.wakes.Wakes.{Wakes}
use Rattle.gn_hub.specs.declared.wakes.Wakes.TheVariants.{Nobody, Queued, Writer, Doors, Everybody}
use Rattle.gn_hub.specs.ActorState.{ActorState}
use Rattle.gn_hub.specs.Calls.{due, later}
use Rattle.gn_hub.specs.HubState.{HubState, door_of, is_closing}

-- who meets the link has to wait: its door is unmet, and the run hasn't failed
abbrev pub IsUnmet : {A : Type 0} → HubState A → ℕ → Type 0
IsUnmet h link = (door_of (slice_get h.links link) ≡ Unmet) × (h.failed ≡ false)

-- whether a packet was queued to connection c
abbrev pub is_queued_to : {A : Type 0} → ℕ → List (Sending A) → Bool
is_queued_to c sends = list_any (λ s. (s.to == c) && s.queued) sends

-- whether the writer of connection c is woken, where a step's reply has these sends
abbrev pub is_woken : {A : Type 0} → Wakes → List (Sending A) → ℕ → Bool
is_woken Nobody sends c = false
is_woken Queued sends c = is_queued_to c sends
is_woken (Writer d) sends c = c == d
is_woken Doors sends c = false
is_woken Everybody sends c = true

-- whether who waits at a door is woken
abbrev pub are_doors_woken : Wakes → Bool
are_doors_woken Doors = true
are_doors_woken Everybody = true
are_doors_woken wakes = false

-- whoever had to wait and isn't woken has to wait still: at a door, or for what is next on a connection
pub record LeavesWaiting {A : Type 0} (wakes : Wakes) (sends : List (Sending A)) (before after : HubState A) : Type 0 where
  pub at_door : are_doors_woken wakes ≡ false → (link : ℕ) → IsUnmet before link → IsUnmet after link
  pub for_next : (c : ℕ) → is_woken wakes sends c ≡ false → due before c ≡ later → due after c ≡ later

-- the same, with the sends of the actor's last receipt
abbrev pub LeavesOthers : {A : Type 0} → Wakes → ActorState A → HubState A → HubState A → Type 0
LeavesOthers {A} wakes us before after =
    (rs : List (Receipt A)) × (r : Receipt A) × (us.receipts ≡ rs ++ r ∷ []) × LeavesWaiting wakes (sends_of r.reply) before after

-- whom an event's step concerns while the run goes on: the connection that it closed, or those that it queued a packet to
abbrev pub concerned : {A : Type 0} → Event A → Wakes
concerned (Close c) = Writer c
concerned event = Queued

-- whom a step may bring what they wait for: everybody where the run closes
abbrev pub wakes_of : {A : Type 0} → Event A → HubState A → Wakes
wakes_of event after = if is_closing after then Everybody else concerned event
