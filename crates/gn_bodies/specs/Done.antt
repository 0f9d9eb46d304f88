-- What the bodies of a link give back, and what they promise of it.
use Rattle.std.specs.Prelude.{◌≡◌, ◌<◌, ◌⊎◌, ℕ, true, not, List, ◌++◌, filter, is_some, map, IfOk, OnOk, Option, None, Result}
use Rattle.gn_wire.specs.Encoding.{bytes_of}
use Rattle.gn_wire.specs.Packet.{Packet}
use Rattle.gn_rules.specs.declared.receipt.Receipt.{Receipt}
use Rattle.gn_rules.specs.History.{ticket_of}
use Rattle.gn_shake.specs.declared.role.Role.{Role}
use Rattle.gn_links.specs.Halves.{Source, IsReadFrom, ReadHalf, WrittenHalf}
use Rattle.gn_bodies.specs.declared.ends.BodyFault.{BodyFault}
use Rattle.gn_bodies.specs.declared.ends.ReaderEnd.{ReaderEnd}
use Rattle.gn_bodies.specs.declared.ends.ReaderEnd.TheVariants.{ReadFailed}
use Rattle.gn_bodies.specs.declared.ends.WriterEnd.{WriterEnd}
use Rattle.gn_bodies.specs.declared.ends.WriterEnd.TheVariants.{WriteFailed}
use Rattle.gn_bodies.specs.declared.reader.ReaderDone.{ReaderDone}
use Rattle.gn_bodies.specs.declared.reader.ReaderTask.{ReaderTask}
use Rattle.gn_bodies.specs.declared.writer.WriterDone.{WriterDone}
use Rattle.gn_bodies.specs.declared.writer.WriterTask.{WriterTask}
use Rattle.gn_hub.specs.ActorState.{ActorState}
use Rattle.gn_bodies.specs.Events.{link_events_in}
use Rattle.gn_bodies.specs.Jobs.{jobs_left}
use Rattle.gn_laws.specs.Owners.{known_conn, packets_of}
use Rattle.gn_bodies.specs.ReaderRows.{HasClosedAt, ReaderDid, ReaderRow, SourceRow}
use Rattle.gn_bodies.specs.Written.{WriterDid, WriterRow, WriterSteps, opening_texts}

-- a half of a link before its body began, and how the link begins
pub record Half (H : Type 0) : Type 0 where
  pub role : Role
  pub half : H

-- this half of a link of this role
abbrev pub half_of : {H : Type 0} → Role → H → Half H
half_of role half = record { role = role; half = half }

-- a body as it ended: the connection that it knows of, its receipts, its half or what the half says, and its end
pub record Ended (A E H : Type 0) : Type 0 where
  pub conn : Option ℕ
  pub receipts : List (Receipt A)
  pub half : H
  pub end : Result E BodyFault

-- the same body, with what its half says
abbrev pub halved : {A E H T : Type 0} → (H → T) → Ended A E H → Ended A E T
halved view body = record { conn = body.conn; receipts = body.receipts; half = view body.half; end = body.end }

-- the body of an actor as it ended
abbrev pub ended : {A E H : Type 0} → Option ℕ → ActorState A → H → Result E BodyFault → Ended A E H
ended conn me half end = record { conn = conn; receipts = me.receipts; half = half; end = end }

-- what a reader's end says of the connection, of the receipts, and of the half that was read, of which `turns` reads may give bytes
pub record ReadsAs {A : Type 0} (turns : ℕ) (role : Role) (end : ReaderEnd) (conn : Option ℕ) (receipts : List (Receipt A))
    (half : ReadHalf) : Type 0 where
  -- its events except the routes, in order, and its bytes are as the table of ends says, where the bytes are known
  pub row : half.is_known ≡ true
      → ReaderRow role end conn (filter (λ event. not (is_some (ticket_of event))) (map (λ r. r.event) receipts)) half.bytes
  -- its receipts are as the end says, whatever its bytes were
  pub did : ReaderDid end conn receipts
  -- the half ended, or a read failed, or as many reads gave bytes as may be, as the end says
  pub counts : SourceRow turns end half

-- what a writer's end says of the packets that were taken, at most `batch` at once, and of the half that was written
pub record WritesAs (batch : ℕ) (role : Role) (end : WriterEnd) (packets : List Packet) (half : WrittenHalf) : Type 0 where
  -- what was written are the opening text and the packets, all or up to where a write failed, where the bytes are known
  pub row : half.is_known ≡ true → WriterRow batch end role (opening_texts role ++ map bytes_of packets) half.bytes
  -- a write failed, or took nothing, where the end says so
  pub hurt : end ≡ WriteFailed → (0 < half.failures) ⊎ (half.is_stuck ≡ true)

-- a reader's receipts and its half are as its end says, where it has one, and its connection is the one that its receipts made
abbrev pub ReaderKeeps : {A : Type 0} → ℕ → Role → Ended A ReaderEnd ReadHalf → Type 0
ReaderKeeps turns role body =
    IfOk body.end (λ end. ReadsAs turns role end body.conn body.receipts body.half × (body.conn ≡ known_conn body.receipts))

-- a writer's receipts, its connection and its half are as its end says, where it has one, and its half is finished
abbrev pub WriterKeeps : {A : Type 0} → ℕ → Role → Ended A WriterEnd WrittenHalf → Type 0
WriterKeeps batch role body =
    IfOk body.end (λ end. WritesAs batch role end (packets_of body.receipts) body.half
    × WriterDid role end body.conn body.receipts)
    × (body.half.is_finished ≡ true)

-- what the body of a reader promises of the half that it began with, where a half says this of itself and of the link that it
-- was split from, a reader of such a link is to give this, and so many of its reads may give bytes
pub record IsReaderDone {A Rd O : Type 0} (state : Rd → ReadHalf) (made_of : Rd → O) (gives : O → Source) (turns : ℕ)
    (link : Half Rd) (body : Ended A ReaderEnd Rd) : Type 0 where
  -- its receipts and its half are as its end says
  pub kept : ReaderKeeps turns link.role (halved state body)
  -- it routed nothing where it didn't connect
  pub alone : OnOk body.end (known_conn body.receipts ≡ None
      → map (λ r. r.event) body.receipts ≡ link_events_in body.receipts)
  -- the half that it gives back was split from the same link
  pub made : made_of body.half ≡ made_of link.half
  -- what was read are the bytes of that link, where they are known beforehand
  pub own : IsReadFrom (gives (made_of link.half)) (state body.half)
  -- a read failed only where one may
  pub failed : IfOk body.end (λ end. end ≡ ReadFailed → (gives (made_of link.half)).may_fail ≡ true)

-- what the body of a writer that takes at most `batch` packets at once promises of the half that it began with
pub record IsWriterDone {A W O : Type 0} (state : W → WrittenHalf) (made_of : W → O) (batch : ℕ) (link : Half W)
    (body : Ended A WriterEnd W) : Type 0 where
  -- its receipts and its half are as its end says
  pub kept : WriterKeeps batch link.role (halved state body)
  -- the half that it gives back was split from the same link
  pub made : made_of body.half ≡ made_of link.half

-- a reader's body as it ended
abbrev pub reader_ended : {Rd B A : Type 0} → ReaderDone Rd B A → Ended A ReaderEnd Rd
reader_ended done = record { conn = done.connection; receipts = done.actor.receipts; half = done.reader; end = done.end }

-- a writer's body as it ended
abbrev pub writer_ended : {W L A : Type 0} → WriterDone W L A → Ended A WriterEnd W
writer_ended done = record { conn = done.connection; receipts = done.actor.receipts; half = done.writer; end = done.end }

-- how a reader's body leaves its actor, its role and its intake
pub record ReaderLeaves {Rd B A : Type 0} (me : ActorState A) (task : ReaderTask Rd B A)
    (done : ReaderDone Rd B A) : Type 0 where
  -- they are those that it began with
  pub same : (done.actor.number ≡ me.number) × (done.role ≡ task.role) × (done.home.number ≡ task.intake.number)
  -- the jobs that its receipts leave were put to the intake, where it has an end
  pub put : OnOk done.end (done.home.jobs ≡ task.intake.jobs ++ jobs_left done.actor.receipts)
  -- where its end closes the connection, the last that it did is that; or the connection was found closed
  pub closed : IfOk done.end (λ end. HasClosedAt end done.found_closed done.actor)

-- how a writer's body leaves its actor and its role
pub record WriterLeaves {W L A : Type 0} (me : ActorState A) (task : WriterTask W)
    (done : WriterDone W L A) : Type 0 where
  -- they are those that it began with
  pub same : (done.actor.number ≡ me.number) × (done.role ≡ task.role)
  -- its receipts are as its end says, and so are the connection, what it found closed, and what closed it drained
  pub steps : IfOk done.end
      (λ end. WriterSteps task.role end done.connection done.found_closed done.idle done.actor.receipts)
