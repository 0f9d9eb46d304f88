-- What a report is compared with, actor by actor, and what is answered.
use Rattle.std.specs.Prelude.{◌≡◌, ◌≤◌, ◌<◌, ◌+◌, ◌-◌, ℕ, Bool, true, if◌then◌else◌, nat_lt, List, [], length, reverse, slice_index_or, Option, Some, None, Vec, MatchBool, is_some}
use Rattle.std.specs.List.{count_by, filter_map, list_all, slice_get}
use Rattle.gn_rules.specs.declared.receipt.Receipt.{Receipt}
use Rattle.gn_rules.specs.declared.receipt.Step.{Step}
use Rattle.gn_rules.specs.History.{connected_of, mine, ticket_of}
use Rattle.gn_rules.specs.Output.{queued}
use Rattle.gn_shake.specs.declared.role.Role.{Role}
use Rattle.gn_shake.specs.Greeting.{is_calling}
use Rattle.gn_bodies.specs.declared.ends.WriterEnd.TheVariants.{Drained}
use Rattle.gn_laws.specs.Owners.{is_readers, is_writers, packets_of}
use Rattle.gn_report.specs.declared.report.LinkReport.{LinkReport}
use Rattle.gn_report.specs.declared.report.Report.{Report}
use Rattle.gn_actors.specs.declared.who.Who.TheVariants.{House, Writer}
use Rattle.gn_report.specs.Actors.{number_in, receipts_of}
use Rattle.gn_report.specs.BodyEnds.{is_connect, is_reader_end, is_writer_end, may_close_first}

-- what the history confirms of the reader of a link, whose writer is actor `writer`
pub record ReaderConfirmed {Rd W A : Type 0} (steps : List (Step A)) (all_call : Bool) (writer : ℕ) (role : Role) (link : LinkReport Rd W A) : Type 0 where
  -- the link's connection is that of the first Connect that was replied Connected
  pub conn : link.conn
      ≡ slice_get (filter_map (λ r. if is_connect r.event then connected_of r.reply else None) link.reader_receipts.items) 0
  -- its events are Connect, Admit and Close of the connection, and Route
  pub events : list_all (λ r. is_readers link.conn r.event) link.reader_receipts.items ≡ true
  -- it connected at most once
  pub once : count_by (λ r. is_connect r.event) link.reader_receipts.items ≤ 1
  -- its end is right by its connection, by who closed that, and by the writer's end
  pub end : is_reader_end steps writer (may_close_first all_call role link.writer_end) link.reader_receipts.items link.reader_end link.conn ≡ true

-- what the history confirms of the writer of a link, which is actor a
pub record WriterConfirmed {Rd W A : Type 0} (settled : ℕ → Bool) (roles : List Role) (steps : List (Step A)) (a : ℕ) (role : Role) (link : LinkReport Rd W A) : Type 0 where
  -- its events are Take and Close of the connection
  pub events : list_all (λ r. is_writers link.conn r.event) link.writer_receipts.items ≡ true
  -- its end is right by its connection and by who closed that
  pub end : is_writer_end settled roles steps a role link.writer_receipts.items link.writer_end link.conn ≡ true

-- all events of these receipts are Route
abbrev pub AreRoutes : {A : Type 0} → List (Receipt A) → Type 0
AreRoutes receipts = list_all (λ r. is_some (ticket_of r.event)) receipts ≡ true

-- what the history confirms of the house, which is the last actor, a, and of the run as a whole
pub record HouseConfirmed {A : Type 0} (settled : ℕ → Bool) (steps : List (Step A)) (a : ℕ) (receipts : List (Receipt A)) : Type 0 where
  -- the house routes what workers left
  pub routes : AreRoutes receipts
  -- no step is of an actor that the run doesn't have
  pub only : list_all (λ step. nat_lt step.actor (a + 1)) steps ≡ true
  -- each admitted ticket is routed: nothing is in flight at the end
  pub tickets : settled (length steps) ≡ true

-- what the history confirms of actor a, but that its receipts are its own steps. `settled` says after how many steps nothing is
-- in flight
abbrev pub IsFitting : {Rd W A : Type 0} → (ℕ → Bool) → List Role → Report Rd W A → ℕ → Type 0
IsFitting {Rd} {W} {A} settled roles report a =
    let steps = report.history.items in
    let links = report.links.items in
    let workers = report.workers.items in
    let n = length links in
    MatchBool (nat_lt a n)
    ((r : Role) (d : LinkReport Rd W A) → ReaderConfirmed steps (list_all is_calling roles) (number_in report (Writer a)) (slice_index_or roles a r) (slice_index_or links a d))
    (MatchBool (nat_lt a (n + n))
    ((r : Role) (d : LinkReport Rd W A) → WriterConfirmed settled roles steps a (slice_index_or roles (a - n) r) (slice_index_or links (a - n) d))
    (MatchBool (nat_lt a (n + n + length workers))
    ((d : Vec (Receipt A) A) → AreRoutes (slice_index_or workers (a - (n + n)) d).items)
    (HouseConfirmed settled steps a report.house.items)))

-- all that the history confirms of actor a
abbrev pub IsConfirmed : {Rd W A : Type 0} → (ℕ → Bool) → List Role → Report Rd W A → ℕ → Type 0
IsConfirmed settled roles report a =
    (slice_index_or (receipts_of report) a [] ≡ mine report.history.items a) × IsFitting settled roles report a

-- the answer to a report: none where all actors are confirmed, else the least one that isn't
abbrev pub IsFlaw : {Rd W A : Type 0} → (ℕ → Bool) → List Role → Report Rd W A → Option ℕ → Type 0
IsFlaw settled roles report None = (a : ℕ) → a < number_in report House + 1 → IsConfirmed settled roles report a
IsFlaw settled roles report (Some a) =
    (a < number_in report House + 1) × (¬ (IsConfirmed settled roles report a)) × ((k : ℕ) → k < a → IsConfirmed settled roles report k)

-- where the writer of link k ended Drained, it took all packets that were ever queued to the link's connection
abbrev pub TookAll : {Rd W A : Type 0} → Report Rd W A → ℕ → Type 0
TookAll {Rd} {W} {A} report k =
    (d : LinkReport Rd W A) (c : ℕ) → (slice_index_or report.links.items k d).writer_end ≡ Drained → (slice_index_or report.links.items k d).conn ≡ Some c
    → packets_of (slice_index_or report.links.items k d).writer_receipts.items ≡ queued (reverse report.history.items) c
