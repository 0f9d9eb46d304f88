-- The table of links: slots, and what is known of each link that came.
use Rattle.std.specs.Prelude.{◌≡◌, ◌+◌, ◌<◌, ◌≤◌, ◌^◌, ℕ, ⊤, suc, zero, Bool, true, false, List, [], ◌∷◌, Option, Some, None, length, map, slice_get, slice_index_or}
use Rattle.std.specs.List.{filter_map}
use Rattle.gn_rules.specs.declared.receipt.Receipt.{Receipt}
use Rattle.gn_actors.specs.Registry.{RegistryState}
use Rattle.gn_actors.specs.declared.who.Numbering.{Numbering}
use Rattle.gn_actors.specs.declared.who.Numbering.TheVariants.{Known, Open}
use Rattle.gn_report.specs.declared.account.LinkEnd.{LinkEnd}
use Rattle.gn_report.specs.declared.account.LinkEnd.TheVariants.{Whole, Cut}
use Rattle.gn_shake.specs.declared.role.Role.{Role}
use Rattle.gn_start.specs.Incoming.{IsSameFrom}
use Rattle.gn_start.specs.Seats.{Seat}
use Rattle.gn_start.specs.Numbers.{IsNobodys, IsUpTo, numbers_of, reader_of, workers_of, writer_of}
use Rattle.gn_start.specs.declared.incoming.NewLink.{NewLink}
use Rattle.gn_start.specs.declared.states.LinkState.{LinkState}
use Rattle.gn_start.specs.declared.states.LinkState.TheVariants.{At, Ended, Lost}

-- how the k-th link stands in its slot that came so
abbrev pub seat_for : {Rd W : Type 0} → Numbering → ℕ → NewLink Rd W → Seat Rd W
seat_for m k came = record { link = k; reader = reader_of m k; writer = writer_of m k; came = came; other = came.role }

-- the table as contracts see it: how the actors are numbered, how the link of each slot stands, what is known of each link that came, the
-- registry, whether more links may come, as far as the stage says, whether an actor or something else is lost, and whether the run has a
-- fault
pub record TableState (Rd W A : Type 0) : Type 0 where
  pub numbering : Numbering
  pub live : List (Option (Seat Rd W))
  pub states : List (LinkState Rd W A)
  pub registry : RegistryState A
  pub is_open : Bool
  pub is_lost : Bool
  pub is_faulty : Bool

-- what may be known of a link in a run of which an actor or something else is lost, or not, and that has a fault, or not
abbrev pub MayBe : {Rd W A : Type 0} → Bool → Bool → LinkState Rd W A → Type 0
MayBe lost faulty (At i came) = ⊤
MayBe lost faulty (Ended came (Whole link)) = ⊤
MayBe lost faulty (Ended came (Cut tally)) = faulty ≡ true
MayBe lost faulty (Lost came) = lost ≡ true

-- what came
abbrev pub came_in : {Rd W A : Type 0} → LinkState Rd W A → NewLink Rd W
came_in (At i came) = came
came_in (Ended came end) = came
came_in (Lost came) = came

-- what a table has that keeps this of each link that ended and of its actors' lists, where this is so of each link as it comes
pub record IsLinkTable {Rd W A : Type 0} (kept : NewLink Rd W → LinkEnd Rd W A → List (Receipt A) → List (Receipt A) → Type 0)
    (one : NewLink Rd W → Type 0) (m : Numbering) (came : ℕ) (lost faulty : Bool) (live : List (Option (Seat Rd W))) (states : List (LinkState Rd W A)) (r : RegistryState A) : Type 0 where
  pub many : length states ≡ came
  pub slots : length live < 2 ^ 32
  pub long : length r.lists ≡ numbers_of m came
  pub fits : IsUpTo m came
  pub few : r.out ≤ workers_of m + (came + came) + 1
  -- a slot that is taken has a link that came, and its state says so: so no two slots have one link
  pub taken : (i : ℕ) (p : Seat Rd W) → slice_index_or live i None ≡ Some p
      → (slice_get states p.link ≡ Some (At i p.came)) × (p ≡ seat_for m p.link p.came)
  pub there : (k i : ℕ) (c : NewLink Rd W) → slice_get states k ≡ Some (At i c) → slice_index_or live i None ≡ Some (seat_for m k c)
  pub out : (k i : ℕ) (c : NewLink Rd W) → slice_get states k ≡ Some (At i c)
      → (slice_index_or r.lists (reader_of m k) [] ≡ []) × (slice_index_or r.lists (writer_of m k) [] ≡ [])
  pub ended : (k : ℕ) (c : NewLink Rd W) (e : LinkEnd Rd W A) → slice_get states k ≡ Some (Ended c e)
      → kept c e (slice_index_or r.lists (reader_of m k) []) (slice_index_or r.lists (writer_of m k) [])
  -- the others have no list yet
  pub others : (n : ℕ) → IsNobodys m came n → slice_index_or r.lists n [] ≡ []
  pub may : (k : ℕ) (s : LinkState Rd W A) → slice_get states k ≡ Some s → MayBe lost faulty s
  pub ones : (k : ℕ) (s : LinkState Rd W A) → slice_get states k ≡ Some s → one (came_in s)
  pub found : lost ≡ true → faulty ≡ true

-- how a link ended that has
abbrev pub end_in : {Rd W A : Type 0} → LinkState Rd W A → Option (LinkEnd Rd W A)
end_in (At i came) = None
end_in (Ended came end) = Some end
end_in (Lost came) = None

-- how those ended that have
abbrev pub ends_of : {Rd W A : Type 0} → List (LinkState Rd W A) → List (LinkEnd Rd W A)
ends_of states = filter_map end_in states

-- how each ended, where it has
abbrev pub ends_so_far : {Rd W A : Type 0} → List (LinkState Rd W A) → List (Option (LinkEnd Rd W A))
ends_so_far states = map end_in states

-- all that came
abbrev pub all_came : {Rd W A : Type 0} → List (LinkState Rd W A) → List (NewLink Rd W)
all_came states = map came_in states

-- the k-th link, which came so, has ended so
abbrev pub with_end : {Rd W A : Type 0} → List (LinkState Rd W A) → ℕ → LinkEnd Rd W A → List (LinkState Rd W A)
with_end [] k end = []
with_end (s ∷ states) zero end = Ended (came_in s) end ∷ states
with_end (s ∷ states) (suc k) end = s ∷ with_end states k end

-- each of these links came as it might
pub record AreFirst {Rd W O F : Type 0} (read_of : Rd → O) (foreknown : O → F) (may : ℕ → Role → F → Type 0) (links : List (NewLink Rd W)) : Type 0 where
  pub may_come : (k : ℕ) (c : NewLink Rd W) → slice_get links k ≡ Some c → may k c.role (foreknown (read_of c.reader))

-- these have come since what was still to come was the first, and now the rest is
abbrev pub AreComing : {V Rd W O F : Type 0} → (Rd → O) → (O → F) → (V → ℕ → Role → F → Type 0) → (V → ℕ → Type 0) → V → V → List (NewLink Rd W) → Type 0
AreComing read_of foreknown may ends first rest links =
    AreFirst read_of foreknown (may first) links × IsSameFrom may ends (length links) first rest

-- no link comes beyond those of a run whose links are known beforehand; of an open run nothing is said
abbrev pub EndsBy : Numbering → (ℕ → Type 0) → Type 0
EndsBy (Known n v) ends = ends n
EndsBy (Open v) ends = ⊥

-- these have come as they might: where it is known when all have, and the run has no fault, all of them
pub record AreAll {Rd W O F : Type 0} (read_of : Rd → O) (foreknown : O → F) (is_known faulty : Bool) (m : Numbering)
    (may : ℕ → Role → F → Type 0) (ends : ℕ → Type 0) (links : List (NewLink Rd W)) : Type 0 where
  pub so_far : AreFirst read_of foreknown may links
  pub no_more : is_known ≡ true → faulty ≡ false → EndsBy m ends → ends (length links)

-- all slots are free
abbrev pub AreFree : {Rd W : Type 0} → List (Option (Seat Rd W)) → Type 0
AreFree live = (i : ℕ) → slice_index_or live i None ≡ None

-- what has come by the end of a run of what was still to come when so much had
pub record HasMade {V Rd W A O F : Type 0} (read_of : Rd → O) (foreknown : O → F) (is_known : Bool) (may : V → ℕ → Role → F → Type 0)
    (ends : V → ℕ → Type 0) (rest : V) (before after : TableState Rd W A) : Type 0 where
  pub each : (first : V) → AreComing read_of foreknown may ends first rest (all_came before.states)
      → AreAll read_of foreknown is_known after.is_faulty after.numbering (may first) (ends first) (all_came after.states)

-- the same of a run that began with none
pub record HasBeenMade {Rd W A O F : Type 0} (read_of : Rd → O) (foreknown : O → F) (is_known : Bool) (may : ℕ → Role → F → Type 0)
    (ends : ℕ → Type 0) (after : TableState Rd W A) : Type 0 where
  pub now : AreAll read_of foreknown is_known after.is_faulty after.numbering may ends (all_came after.states)
