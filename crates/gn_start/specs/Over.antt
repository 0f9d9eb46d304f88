-- What is known of what a run leaves once its threads are joined.
use Rattle.std.specs.Prelude.{◌≡◌, ◌<◌, ◌+◌, ℕ, Bool, true, false, List, [], length, map, slice_index_or, vec_len, Option, Some, None}
use Rattle.std.specs.List.{list_all, slice_get}
use Rattle.gn_rules.specs.declared.receipt.Receipt.{Receipt}
use Rattle.gn_rules.specs.declared.receipt.Step.{Step}
use Rattle.gn_shake.specs.declared.role.Role.{Role}
use Rattle.gn_actors.specs.ActorState.{ActorState}
use Rattle.gn_actors.specs.Registry.{IsOut}
use Rattle.gn_actors.specs.Tallies.{tally_of}
use Rattle.gn_actors.specs.Who.{number_of}
use Rattle.gn_actors.specs.declared.who.Numbering.{Numbering}
use Rattle.gn_actors.specs.declared.who.Who.TheVariants.{Reader, Writer, Worker, House}
use Rattle.gn_links.specs.Halves.{ReadHalf, Source, WrittenHalf}
use Rattle.gn_report.specs.Accounts.{is_routing}
use Rattle.gn_report.specs.Ended.{IsLinkEnded, LinkViews}
use Rattle.gn_report.specs.Looks.{AreCounted}
use Rattle.gn_report.specs.declared.account.LinkAccount.{LinkAccount}
use Rattle.gn_report.specs.declared.account.LinkEnd.{LinkEnd}
use Rattle.gn_report.specs.declared.account.LinkEnd.TheVariants.{Whole, Cut}
use Rattle.gn_start.specs.Numbers.{numbers_of}
use Rattle.gn_start.specs.declared.over.Over.{Over}

-- a link has ended so whose actors have these receipts: what its account says was so when so many steps were seen; where it was cut, its
-- tallies count them
abbrev pub EndsAs : {Rd W A O : Type 0} → ℕ → ℕ → LinkViews Rd W O → List (Step A) → List (Receipt A) → List (Receipt A) → LinkEnd Rd W A → Type 0
EndsAs turns batch views seen reads writes (Whole link) =
    IsLinkEnded turns batch views seen link × (reads ≡ link.reader_receipts.items) × (writes ≡ link.writer_receipts.items)
EndsAs turns batch views seen reads writes (Cut tally) = (tally.read ≡ tally_of reads) × (tally.written ≡ tally_of writes)

-- the same of a link whose actors' lists are those by these numbers
abbrev pub HasEnded : {Rd W A O : Type 0} → ℕ → ℕ → LinkViews Rd W O → List (Step A) → List (List (Receipt A)) → ℕ → ℕ → LinkEnd Rd W A → Type 0
HasEnded turns batch views seen lists reader writer end =
    EndsAs turns batch views seen (slice_index_or lists reader []) (slice_index_or lists writer []) end

-- these views of the halves of links, as one value
abbrev pub views_of : {Rd W O : Type 0} → (Rd → ReadHalf) → (W → WrittenHalf) → (O → Source) → (Rd → O) → (W → O) → LinkViews Rd W O
views_of reads writes gives reader_of writer_of =
    record { reads = reads; writes = writes; gives = gives; reader_of = reader_of; writer_of = writer_of }

-- each of these links has ended in these steps
abbrev pub AllEnded : {Rd W A O : Type 0} → ℕ → ℕ → LinkViews Rd W O → List (Step A) → List (LinkAccount Rd W A) → Type 0
AllEnded {Rd} {W} {A} turns batch views steps links =
    (k : ℕ) (d : LinkAccount Rd W A) → k < length links → IsLinkEnded turns batch views steps (slice_index_or links k d)

-- the links of a run are these, which came as they might; where it had no fault, they are all, if it is known when all have come
pub record HaveCome {Rd W K B A O F : Type 0} (views : LinkViews Rd W O) (foreknown : O → F) (is_known : Bool)
    (may : ℕ → Role → F → Type 0) (ends : ℕ → Type 0) (over : Over Rd W K B A) : Type 0 where
  pub may_come : over.is_lost ≡ false → (k : ℕ) (link : LinkAccount Rd W A) → slice_get over.links.items k ≡ Some (Whole link)
      → may k link.role (foreknown (views.reader_of link.reader))
  pub no_more : over.fault ≡ None → is_known ≡ true → ends (length over.links.items)

-- actors numbered from this number on
abbrev pub AreNumberedFrom : {A : Type 0} → ℕ → List (ActorState A) → Type 0
AreNumberedFrom {A} first actors = (j : ℕ) (d : ActorState A) → j < length actors → (slice_index_or actors j d).number ≡ first + j

-- what a run leaves whose actors are numbered so, of whose links `turns` reads may give bytes, and whose writers take at most `batch` packets
-- at once
pub record IsOver {Rd W K B A O : Type 0} (views : LinkViews Rd W O) (keeps : K → List (Option (LinkEnd Rd W A)) → Type 0)
    (turns batch : ℕ) (m : Numbering) (workers : ℕ) (over : Over Rd W K B A) : Type 0 where
  -- there is a list for each actor; nothing of workers and the house came home
  pub lists : length over.registry.lists ≡ numbers_of m over.came
  pub house : IsOut over.registry (number_of m House)
  pub crew : (j : ℕ) → j < workers → IsOut over.registry (number_of m (Worker j))
  -- where nothing is lost, all workers are here, and have routed alone; and of each link is known how it ended
  pub working : over.is_lost ≡ false
      → (vec_len over.workers ≡ workers) × AreNumberedFrom (number_of m (Worker 0)) over.workers.items
      × (list_all (λ me. is_routing me.receipts) over.workers.items ≡ true)
  pub all : over.is_lost ≡ false → length over.links.items ≡ over.came
  pub kept : over.is_lost ≡ false → keeps over.keeper (map (λ link. Some link) over.links.items)
  pub each : over.is_lost ≡ false → (k : ℕ) (link : LinkEnd Rd W A) → slice_get over.links.items k ≡ Some link
      → HasEnded turns batch views over.registry.seen over.registry.lists (number_of m (Reader k)) (number_of m (Writer k)) link
  -- where the run had no fault, nothing is lost, and all links have accounts, which the looks count
  pub whole : over.fault ≡ None
      → (over.is_lost ≡ false)
      × ((accounts : List (LinkAccount Rd W A)) × (over.links.items ≡ map (λ link. Whole link) accounts)
      × AreCounted over.looks (map (λ link. Some (Whole link)) accounts))
