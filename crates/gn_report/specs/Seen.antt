-- What is seen of a run that is over, so that its report needs no comparison with its history: what the bodies promise of their own
-- receipts, and a few looks at the router and at each link.
use Rattle.std.specs.Prelude.{◌≡◌, ◌<◌, ◌+◌, ◌-◌, ℕ, Bool, true, false, nat_lt, List, length, reverse, slice_index_or, Option, Some, None, Vec, ⊤}
use Rattle.std.specs.List.{list_all}
use Rattle.gn_rules.specs.declared.config.Config.{Config}
use Rattle.gn_rules.specs.declared.receipt.Receipt.{Receipt}
use Rattle.gn_rules.specs.declared.receipt.Step.{Step}
use Rattle.gn_rules.specs.Answer.{IsLegal}
use Rattle.gn_rules.specs.History.{mine}
use Rattle.gn_shake.specs.declared.role.Role.{Role}
use Rattle.gn_shake.specs.Greeting.{is_calling}
use Rattle.gn_laws.specs.Owners.{known_conn}
use Rattle.gn_actors.specs.Tallies.{last_place}
use Rattle.gn_bodies.specs.declared.ends.ReaderEnd.{ReaderEnd}
use Rattle.gn_bodies.specs.declared.ends.ReaderEnd.TheVariants.{Bytes, NotLive}
use Rattle.gn_bodies.specs.declared.ends.WriterEnd.{WriterEnd}
use Rattle.gn_bodies.specs.declared.ends.WriterEnd.TheVariants.{Drained, WriteFailed, NeverOpened}
use Rattle.gn_bodies.specs.ReaderRows.{ReaderDid}
use Rattle.gn_bodies.specs.Written.{WriterDid}
use Rattle.gn_report.specs.declared.report.LinkReport.{LinkReport}
use Rattle.gn_report.specs.declared.report.Report.{Report}
use Rattle.gn_actors.specs.declared.who.Who.TheVariants.{House}
use Rattle.gn_report.specs.Accounts.{are_houses}
use Rattle.gn_report.specs.Actors.{AreOwn, is_awaited_reader, number_in}
use Rattle.gn_report.specs.BodyEnds.{is_closed, is_settled, may_close_first}
use Rattle.gn_report.specs.Flaw.{AreRoutes, IsFlaw}

-- the connection that a writer wrote on is the link's: one whose request couldn't be written had none yet, whatever the link's is; and
-- where it never had one, the link has none
abbrev pub IsSameLink : WriterEnd → Option ℕ → Option ℕ → Type 0
IsSameLink WriteFailed None conn = ⊤
IsSameLink NeverOpened written conn = conn ≡ None
IsSameLink end written conn = written ≡ conn

-- whether a link's connection must be closed when the run is over: where its reader closed nothing, and its writer wrote on none, it
-- may be live still
abbrev pub must_be_gone : ReaderEnd → Option ℕ → Bool
must_be_gone Bytes None = false
must_be_gone end written = true

-- what is seen of a link: of its bodies' own receipts, and of its connection
pub record IsLinkSeen {Rd W A : Type 0} (roles : List Role) (steps : List (Step A)) (role : Role) (link : LinkReport Rd W A) : Type 0 where
  -- the reader's receipts are as its end says, and its connection is the one that they made
  pub did : ReaderDid link.reader_end link.conn link.reader_receipts.items
  pub known : link.conn ≡ known_conn link.reader_receipts.items
  -- the writer wrote on this connection, which is the link's, and its receipts are as its end says
  pub written : Option ℕ
  pub wrote : WriterDid role link.writer_end written link.writer_receipts.items × IsSameLink link.writer_end written link.conn
  -- somebody closed the connection, where it must be closed
  pub closed : must_be_gone link.reader_end written ≡ true → (c : ℕ) → link.conn ≡ Some c → is_closed steps c ≡ true
  -- where the reader found its connection closed, the writer's end is one that may close first
  pub first : link.reader_end ≡ NotLive → may_close_first (list_all is_calling roles) role link.writer_end ≡ true
  -- where the writer drained the connection, nothing was in flight just before its last step, and no awaited reader made a later step
  pub settled : link.writer_end ≡ Drained → is_settled steps (last_place link.writer_receipts.items - 1) ≡ true
  pub later : link.writer_end ≡ Drained → (a : ℕ) → is_awaited_reader roles a ≡ true → last_place (mine steps a) < last_place link.writer_receipts.items

-- what is seen of a run that is over, whose own servent sends descriptors or not
pub record AreSeen {Rd W A : Type 0} (originates : Bool) (roles : List Role) (report : Report Rd W A) : Type 0 where
  -- each actor's receipts are its own steps, and no step is of an actor that the run doesn't have
  pub own : AreOwn report
  pub only : list_all (λ step. nat_lt step.actor (number_in report House + 1)) report.history.items ≡ true
  -- each link
  pub links : (k : ℕ) (r : Role) (d : LinkReport Rd W A) → k < length report.links.items
      → IsLinkSeen roles report.history.items (slice_index_or roles k r) (slice_index_or report.links.items k d)
  -- workers only routed, and the house did what it may
  pub workers : (j : ℕ) (d : Vec (Receipt A) A) → j < length report.workers.items → AreRoutes (slice_index_or report.workers.items j d).items
  pub house : are_houses originates report.house.items ≡ true
  -- nothing is in flight
  pub tickets : is_settled report.history.items (length report.history.items) ≡ true

-- in a legal history the report of a run of which this is seen, and whose own servent sends nothing, has no flaw
abbrev pub SeenIsConfirmed : Type 0 → Type 0 → Type 0 → Type 0
SeenIsConfirmed Rd W A =
    (s : Config) (roles : List Role) (report : Report Rd W A) → IsLegal s (reverse report.history.items) → AreSeen false roles report
    → IsFlaw (is_settled report.history.items) roles report None
