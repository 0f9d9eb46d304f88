-- A table of links and what goes with it.
use Rattle.std.specs.Prelude.{◌≡◌, ◌≤◌, ℕ, ⊤, Bool, false, is_some, List, Option, IfSome}
use Rattle.gn_rules.specs.declared.receipt.Receipt.{Receipt}
use Rattle.gn_rules.specs.declared.receipt.Step.{Step}
use Rattle.gn_actors.specs.Registry.{RegistryState}
use Rattle.gn_actors.specs.declared.who.Numbering.{Numbering}
use Rattle.gn_report.specs.Ended.{LinkViews}
use Rattle.gn_report.specs.Looks.{AreCounted}
use Rattle.gn_report.specs.declared.looks.Looks.{Looks}
use Rattle.gn_report.specs.declared.account.LinkEnd.{LinkEnd}
use Rattle.gn_report.specs.declared.account.LinkEnd.TheVariants.{Whole, Cut}
use Rattle.gn_start.specs.Faults.{IsArrivingFault}
use Rattle.gn_start.specs.Seats.{Seat}
use Rattle.gn_start.specs.Numbers.{links_of, workers_of}
use Rattle.gn_start.specs.Over.{EndsAs}
use Rattle.gn_start.specs.Table.{IsLinkTable, ends_so_far}
use Rattle.gn_start.specs.declared.incoming.NewLink.{NewLink}
use Rattle.gn_start.specs.declared.states.LinkState.{LinkState}
use Rattle.gn_start.specs.declared.trouble.Trouble.{Trouble}

-- an end that is kept whole is of the link that came so
abbrev pub IsOf : {Rd W A O : Type 0} → LinkViews Rd W O → NewLink Rd W → LinkEnd Rd W A → Type 0
IsOf views came (Whole link) = (link.role ≡ came.role) × (views.reader_of link.reader ≡ views.reader_of came.reader)
IsOf views came (Cut tally) = ⊤

-- a link that came so has ended so, and in these receipts of its reader and its writer
abbrev pub IsKept : {Rd W A O : Type 0} → ℕ → ℕ → LinkViews Rd W O → List (Step A) → NewLink Rd W → LinkEnd Rd W A → List (Receipt A) → List (Receipt A) → Type 0
IsKept turns batch views seen came end reads writes = EndsAs turns batch views seen reads writes end × IsOf views came end

-- both halves of a link were split from one
abbrev pub IsOne : {Rd W O : Type 0} → LinkViews Rd W O → NewLink Rd W → Type 0
IsOne views came = views.writer_of came.writer ≡ views.reader_of came.reader

-- a table and what goes with it: who keeps how the links ended, the looks, the fault, and how many intakes were made
pub record IsTable {Rd W A O : Type 0} (turns batch : ℕ) (views : LinkViews Rd W O) (has_peers : Bool)
    (keeps : List (Option (LinkEnd Rd W A)) → Type 0) (m : Numbering) (came intakes : ℕ) (trouble : Trouble) (looks : Looks)
    (live : List (Option (Seat Rd W))) (states : List (LinkState Rd W A)) (r : RegistryState A) : Type 0 where
  pub links : IsLinkTable (IsKept turns batch views r.seen) (IsOne views) m came trouble.is_lost (is_some trouble.fault) live states r
  pub keeper : trouble.is_lost ≡ false → keeps (ends_so_far states)
  pub counted : AreCounted looks (ends_so_far states)
  pub named : IfSome trouble.fault (λ fault. IsArrivingFault has_peers (links_of m came) (workers_of m) fault)
  pub made : intakes ≤ came
