-- What is known of a link whose two bodies have ended, by the steps that were seen by then.
use Rattle.std.specs.Prelude.{◌≡◌, ◌≤◌, ◌<◌, ℕ, Bool, true, false, List, length, map, slice_index_or, Option, Some, None, ⊤}
use Rattle.std.specs.List.{list_all}
use Rattle.gn_rules.specs.declared.receipt.Receipt.{Receipt}
use Rattle.gn_rules.specs.declared.receipt.Step.{Step}
use Rattle.gn_shake.specs.declared.role.Role.{Role}
use Rattle.gn_links.specs.Halves.{IsReadFrom, ReadHalf, Source, WrittenHalf}
use Rattle.gn_laws.specs.Owners.{known_conn, packets_of}
use Rattle.gn_bodies.specs.declared.ends.ReaderEnd.TheVariants.{NotLive, ReadFailed}
use Rattle.gn_bodies.specs.Done.{ReadsAs, WritesAs}
use Rattle.gn_bodies.specs.Written.{WriterSteps}
use Rattle.gn_report.specs.declared.account.LinkAccount.{LinkAccount}
use Rattle.gn_report.specs.declared.account.LinkEnd.TheVariants.{Whole}
use Rattle.gn_report.specs.declared.looks.Looks.{Looks}
use Rattle.gn_report.specs.declared.report.Report.{Report}
use Rattle.gn_report.specs.declared.unkept.Unkept.{Unkept}
use Rattle.gn_actors.specs.Registry.{AreWhole}
use Rattle.gn_report.specs.Accounts.{IsReportOf, all_receipts, are_houses, is_routing, unkept_list}
use Rattle.gn_report.specs.BodyEnds.{is_closed, is_settled, may_close_first}
use Rattle.gn_report.specs.Looks.{AreCounted, AreRight}
use Rattle.gn_report.specs.Seen.{AreSeen, IsSameLink, must_be_gone}

-- what the halves of links say: what was read and written, the link that each was split from, and what the reader of such a link is
-- to give
pub record LinkViews (Rd W O : Type 0) : Type 0 where
  pub reads : Rd → ReadHalf
  pub writes : W → WrittenHalf
  pub gives : O → Source
  pub reader_of : Rd → O
  pub writer_of : W → O

-- nothing was in flight after so many of these steps, where this says how many
abbrev pub IsIdleAfter : {A : Type 0} → List (Step A) → Option ℕ → Type 0
IsIdleAfter steps None = ⊤
IsIdleAfter steps (Some at) = (at ≤ length steps) × (is_settled steps at ≡ true)

-- what is known of a link that has ended, in a run of which `turns` reads of a link may give bytes and a writer takes at most `batch`
-- packets at once
pub record IsLinkEnded {Rd W A O : Type 0} (turns batch : ℕ) (views : LinkViews Rd W O) (steps : List (Step A))
    (link : LinkAccount Rd W A) : Type 0 where
  -- the reader's receipts and its half are as its end says, and its connection is the one that they made
  pub read : ReadsAs turns link.role link.reader_end link.conn link.reader_receipts.items (views.reads link.reader)
  pub known : link.conn ≡ known_conn link.reader_receipts.items
  -- what was read are the bytes of the link that it was split from, where they are known beforehand; and a read failed only where one may
  pub own : IsReadFrom (views.gives (views.reader_of link.reader)) (views.reads link.reader)
  pub failed : link.reader_end ≡ ReadFailed → (views.gives (views.reader_of link.reader)).may_fail ≡ true
  -- the writer's half is as its end says, and finished; it was split from the same link
  pub wrote : WritesAs batch link.role link.writer_end (packets_of link.writer_receipts.items) (views.writes link.writer)
  pub finished : (views.writes link.writer).is_finished ≡ true
  pub one : views.writer_of link.writer ≡ views.reader_of link.reader
  -- the writer's receipts are as its end says, whatever it found closed; where it drained its connection, `idle` is the number of the
  -- step that closed it, and nothing was in flight before that
  pub found : Option ℕ
  pub did : WriterSteps link.role link.writer_end link.written_on found link.idle link.writer_receipts.items
  pub idle : IsIdleAfter steps link.idle
  -- it wrote on the link's connection, which was closed, where it must be
  pub same : IsSameLink link.writer_end link.written_on link.conn
  pub closed : must_be_gone link.reader_end link.written_on ≡ true → (c : ℕ) → link.conn ≡ Some c → is_closed steps c ≡ true
  -- where the reader found the connection closed, the writer may close first, in a run that awaits no link that calls
  pub first : link.reader_end ≡ NotLive → may_close_first false link.role link.writer_end ≡ true

-- what is known of a run that is over whose links have these accounts, and whose workers and house have these receipts, and whose own
-- servent sends descriptors or not
pub record IsRunEnded {Rd W A O : Type 0} (originates : Bool) (turns batch : ℕ) (views : LinkViews Rd W O) (roles : List Role) (steps : List (Step A))
    (links : List (LinkAccount Rd W A)) (workers : List (Unkept (Receipt A))) (house : Unkept (Receipt A)) : Type 0 where
  -- each link has ended, and began in its role
  pub each : (k : ℕ) (d : LinkAccount Rd W A) → k < length links → IsLinkEnded turns batch views steps (slice_index_or links k d)
  pub roles_are : roles ≡ map (λ link. link.role) links
  -- what was counted of the links as they ended is right
  pub looks : Looks
  pub counted : AreCounted looks (map (λ link. Some (Whole link)) links)
  pub right : AreRight looks
  -- each actor's receipts are its own steps, and no step is of anybody else
  pub all : AreWhole steps (all_receipts links workers house)
  -- workers only routed, the house did what it may, and nothing is in flight
  pub routes : (list_all is_routing (map unkept_list workers) ≡ true) × (are_houses originates house.items ≡ true)
  pub tickets : is_settled steps (length steps) ≡ true

-- enough is seen of a run of which this is known, for the report that has the same links, workers and house
abbrev pub EndedIsSeen : Type 0 → Type 0 → Type 0 → Type 0 → Type 0
EndedIsSeen Rd W A O =
    (originates : Bool) (turns batch : ℕ) (views : LinkViews Rd W O) (roles : List Role) (heap : A) (links : List (LinkAccount Rd W A))
    (workers : List (Unkept (Receipt A))) (house : Unkept (Receipt A)) (report : Report Rd W A) → IsReportOf heap links workers house report
    → IsRunEnded originates turns batch views roles report.history.items links workers house → AreSeen originates roles report
