-- The headline: what an answered run says of its history, of its actors, of each link and of each admitted ticket.
--
-- `turns` reads of a link may give bytes, and a writer takes at most `batch` packets at once.
use Rattle.std.specs.Prelude.{◌≡◌, ◌<◌, ◌≤◌, ◌+◌, ℕ, Bool, true, false, nat_lt, if◌then◌else◌, List, [], length, map, reverse, slice_index_or, Some, None}
use Rattle.std.specs.List.{count_by, filter_map, list_all, slice_get, sum_by}
use Rattle.gn_rules.specs.declared.config.Config.{Config}
use Rattle.gn_rules.specs.Answer.{IsLegal}
use Rattle.gn_rules.specs.History.{connected_of}
use Rattle.gn_rules.specs.Limits.{most_reads}
use Rattle.gn_rules.specs.Statistics.{stats_of}
use Rattle.gn_links.specs.Halves.{Source, IsReadFrom, ReadHalf, WrittenHalf}
use Rattle.gn_shake.specs.declared.role.Role.{Role}
use Rattle.gn_shake.specs.Greeting.{is_calling}
use Rattle.gn_bodies.specs.declared.ends.ReaderEnd.{ReaderEnd}
use Rattle.gn_bodies.specs.declared.ends.ReaderEnd.TheVariants.{Bytes, ReadFailed}
use Rattle.gn_laws.specs.Owners.{LinkAgrees, is_readers, is_writers}
use Rattle.gn_laws.specs.Runs.{RoutesAll}
use Rattle.gn_report.specs.declared.report.LinkReport.{LinkReport}
use Rattle.gn_report.specs.declared.report.Report.{Report}
use Rattle.gn_actors.specs.declared.who.Who.TheVariants.{House, Worker, Writer}
use Rattle.gn_report.specs.Accounts.{are_houses}
use Rattle.gn_report.specs.Actors.{AreOwn, number_in, receipts_of}
use Rattle.gn_report.specs.BodyEnds.{is_connect, is_settled, may_close_first}
use Rattle.gn_report.specs.Flaw.{AreRoutes, TookAll}
use Rattle.gn_threads.specs.Ends.{ReaderEnds, WriterEnds}

-- what holds of link k, of this role, in a run whose links have these roles
pub record LinkHolds {Rd W A : Type 0} (reads : Rd → ReadHalf) (writes : W → WrittenHalf) (turns batch : ℕ)
    (roles : List Role) (report : Report Rd W A) (k : ℕ) (role : Role) (link : LinkReport Rd W A) : Type 0 where
  -- the link's connection is the one that its reader's Connect got, if any
  pub conn : link.conn
      ≡ slice_get (filter_map (λ r. if is_connect r.event then connected_of r.reply else None) link.reader_receipts.items) 0
  -- the reader's events are at most one Connect, any Admits and Closes of the connection, and Routes
  pub reader : (list_all (λ r. is_readers link.conn r.event) link.reader_receipts.items ≡ true)
      × (count_by (λ r. is_connect r.event) link.reader_receipts.items ≤ 1)
  -- the reader is as the table of ends says
  pub read : ReaderEnds turns report.history.items (number_in report (Writer k)) (may_close_first (list_all is_calling roles) role link.writer_end)
      role link.reader_receipts.items (reads link.reader) link.reader_end link.conn
  -- the writer's events are Take and Close of the connection
  pub writer : list_all (λ r. is_writers link.conn r.event) link.writer_receipts.items ≡ true
  -- the writer is as the table of ends says
  pub written : WriterEnds batch report.history.items roles (number_in report (Writer k)) role link.writer_receipts.items (writes link.writer)
      link.writer_end link.conn
  -- nobody can write to the link any more
  pub finished : (writes link.writer).is_finished ≡ true

-- what a reader with this end read is its own link's; `source` is what that link will deliver
pub record ReadOwn (source : Source) (end : ReaderEnd) (half : ReadHalf) : Type 0 where
  -- what it read is its link's, as `IsReadFrom` says
  pub first : IsReadFrom source half
  -- where all the link's bytes are known beforehand and it ended as Bytes, it read them all
  pub whole : source.is_foretold ≡ true → end ≡ Bytes → half.bytes ≡ source.bytes
  -- it ended as ReadFailed only where a read of the link may fail
  pub failed : end ≡ ReadFailed → source.may_fail ≡ true

-- each reader read its own link, as `ReadOwn` says; `sources` is what the links will deliver, in order
abbrev pub LinksReadOwn : {Rd W A : Type 0} → (Rd → ReadHalf) → List Source → Report Rd W A → Type 0
LinksReadOwn {Rd} {W} {A} reads sources report =
    (k : ℕ) (source : Source) (link : LinkReport Rd W A) → k < length report.links.items
    → ReadOwn (slice_index_or sources k source) (slice_index_or report.links.items k link).reader_end
    (reads (slice_index_or report.links.items k link).reader)

-- both halves in each link's report come from that very link, in order
pub record AreMadeOf {Rd W A O : Type 0} (reader_of : Rd → O) (writer_of : W → O) (origins : List O)
    (report : Report Rd W A) : Type 0 where
  pub readers : map (λ (link : LinkReport Rd W A). reader_of link.reader) report.links.items ≡ origins
  pub writers : map (λ (link : LinkReport Rd W A). writer_of link.writer) report.links.items ≡ origins

-- the two halves in each link's report were split from one link: all that both say of their link is the same, also what was not
-- known of it before it came
abbrev pub AreOfOne : {Rd W A O : Type 0} → (Rd → O) → (W → O) → Report Rd W A → Type 0
AreOfOne reader_of writer_of report =
    map (λ link. writer_of link.writer) report.links.items ≡ map (λ link. reader_of link.reader) report.links.items

-- what holds of the report of a run with this configuration, over links of these roles, with this many workers
pub record Holds {Rd W A : Type 0} (batch : ℕ) (reads : Rd → ReadHalf) (writes : W → WrittenHalf) (s : Config) (roles : List Role)
    (workers : ℕ) (report : Report Rd W A) : Type 0 where
  -- the history is legal: each reply is the one that the rules give after the steps before it
  pub legal : IsLegal s (reverse report.history.items)
  -- there is a report of each link, in their order, and a list of receipts for each worker
  pub each : (length report.links.items ≡ length roles) × (length report.workers.items ≡ workers)
  -- each actor's receipts are its own steps, each once and in order; no step is of anybody else
  pub own : AreOwn report × (list_all (λ step. nat_lt step.actor (number_in report House + 1)) report.history.items ≡ true)
  -- each link's reader and writer did what their ends say
  pub links : (k : ℕ) (role : Role) (link : LinkReport Rd W A) → k < length report.links.items
      → LinkHolds reads writes (most_reads s.numbers.steps) batch roles report k (slice_index_or roles k role) (slice_index_or report.links.items k link)
  -- the workers and the house made no event but Route; at the end nothing is in flight
  pub routes : ((a : ℕ) → number_in report (Worker 0) ≤ a → a < number_in report House + 1 → AreRoutes (slice_index_or (receipts_of report) a []))
      × (is_settled report.history.items (length report.history.items) ≡ true)
  -- the report's statistics are those of the history
  pub stats : report.stats ≡ stats_of (reverse report.history.items)

-- the same of a run whose own servent sends descriptors: its house originates them, and all else is as in `Holds`
pub record HoldsOriginating {Rd W A : Type 0} (batch : ℕ) (reads : Rd → ReadHalf) (writes : W → WrittenHalf) (s : Config) (roles : List Role)
    (workers : ℕ) (report : Report Rd W A) : Type 0 where
  pub legal : IsLegal s (reverse report.history.items)
  pub each : (length report.links.items ≡ length roles) × (length report.workers.items ≡ workers)
  pub own : AreOwn report × (list_all (λ step. nat_lt step.actor (number_in report House + 1)) report.history.items ≡ true)
  pub links : (k : ℕ) (role : Role) (link : LinkReport Rd W A) → k < length report.links.items
      → LinkHolds reads writes (most_reads s.numbers.steps) batch roles report k (slice_index_or roles k role) (slice_index_or report.links.items k link)
  -- the workers made no event but Route, and the house none but Route and Originate; at the end nothing is in flight
  pub routes : ((a : ℕ) → number_in report (Worker 0) ≤ a → a < number_in report House → AreRoutes (slice_index_or (receipts_of report) a []))
      × (are_houses true report.house.items ≡ true) × (is_settled report.history.items (length report.history.items) ≡ true)
  pub stats : report.stats ≡ stats_of (reverse report.history.items)

-- the headline of a run whose own servent sends descriptors, or not
abbrev pub HoldsAs :
    {Rd W A : Type 0} → Bool → ℕ → (Rd → ReadHalf) → (W → WrittenHalf) → Config → List Role → ℕ → Report Rd W A → Type 0
HoldsAs false batch reads writes s roles workers report = Holds batch reads writes s roles workers report
HoldsAs true batch reads writes s roles workers report = HoldsOriginating batch reads writes s roles workers report

-- what follows of a run of which the headline holds
pub record Follows {Rd W A : Type 0} (report : Report Rd W A) : Type 0 where
  -- the history has as many steps as all actors have receipts
  pub counted : sum_by (λ receipts. length receipts) (receipts_of report) ≡ length report.history.items
  -- each admitted ticket is routed exactly once, and each route is replied Routed or Dropped
  pub routed : RoutesAll report.history.items
  -- reader and writer of a link have receipts of all that the history says of its connection: of each descriptor that was
  -- offered on it, and of each packet that was taken from it
  pub agrees : (k c : ℕ) (link : LinkReport Rd W A) → k < length report.links.items
      → (slice_index_or report.links.items k link).conn ≡ Some c → LinkAgrees report.history.items k (number_in report (Writer k)) c
  -- a writer that ended Drained took all packets that were ever queued to its connection
  pub took : (k : ℕ) → k < length report.links.items → TookAll report k

-- where the headline holds, so does what follows of it
abbrev pub RunsAddUp : Type 0 → Type 0 → Type 0 → Type 0
RunsAddUp Rd W A =
    (batch : ℕ) (reads : Rd → ReadHalf) (writes : W → WrittenHalf) (s : Config) (roles : List Role) (workers : ℕ) (report : Report Rd W A)
    → Holds batch reads writes s roles workers report → Follows report
