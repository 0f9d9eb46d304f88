-- The rows of the tables of ends: from what bodies promise and what is compared of a report, and back.
use Rattle.std.proofs.Common.{◌≡◌, ◌==◌, ◌&&◌, ℕ, Bool, true, not, List, [], ◌∷◌, length, Option, Some, None, is_some, if◌then◌else◌, refl, ap, ◌∙◌, arith}
use Rattle.std.specs.List.{cons_option, list_all, slice_get}
use Rattle.std.proofs.lemmas.Bool.{and_parts, eqb-true}
use Rattle.gn_rules.specs.declared.event.Event.{Event}
use Rattle.gn_rules.specs.declared.event.Event.TheVariants.{Connect}
use Rattle.gn_rules.specs.declared.receipt.Receipt.{Receipt}
use Rattle.gn_rules.specs.declared.receipt.Step.{Step}
use Rattle.gn_rules.specs.History.{ticket_of}
use Rattle.gn_rules.specs.declared.reply.Reply.{Reply}
use Rattle.gn_rules.specs.declared.reply.Reply.TheVariants as reply
use Rattle.gn_shake.specs.declared.role.Role.{Role}
use Rattle.gn_shake.specs.Greeting.{is_calling}
use Rattle.gn_links.specs.Halves.{ReadHalf, WrittenHalf}
use Rattle.gn_laws.specs.Owners.{packets_of}
use Rattle.gn_bodies.specs.declared.ends.ReaderEnd.{ReaderEnd}
use Rattle.gn_bodies.specs.declared.ends.ReaderEnd.TheVariants.{Bytes, Fault, ReadFailed, Turns, GreetingRefused, GreetingCut, TooMany, NotLive}
use Rattle.gn_bodies.specs.declared.ends.WriterEnd.{WriterEnd}
use Rattle.gn_bodies.specs.declared.ends.WriterEnd.TheVariants.{Drained, WriteFailed, Closed, NeverOpened}
use Rattle.gn_bodies.specs.Done.{ReadsAs, WritesAs}
use Rattle.gn_bodies.specs.Events.{link_events_in}
use Rattle.gn_bodies.specs.ReaderRows.{ReaderRow}
use Rattle.gn_bodies.specs.Written.{WriterRow}
use Rattle.gn_report.specs.declared.report.LinkReport.{LinkReport}
use Rattle.gn_report.specs.declared.report.Report.{Report}
use Rattle.gn_actors.specs.declared.who.Who.TheVariants.{Writer}
use Rattle.gn_report.specs.Actors.{number_in}
use Rattle.gn_report.specs.BodyEnds.{is_reader_end, is_settled, is_turned_away, is_writer_end, may_close_first}
use Rattle.gn_report.proofs.ConnLemmas.{conn_made, made_by}
use Rattle.gn_threads.specs.Ends.{ReaderEnds, WriterEnds, texts_of}
use Rattle.gn_threads.specs.Headline.{LinkHolds}

none_of : {X : Type 0} (xs : List X) → (length xs == 0) ≡ true → xs ≡ []
none_of [] e = refl
none_of (x ∷ xs) e = absurd (omega (arith, eqb-true (length (x ∷ xs)) 0 e))

-- a Connect that was replied TooMany
turned_one : {A : Type 0} (event : Event A) (answer : Reply A) → is_turned_away event answer ≡ true → (event ≡ Connect) × (answer ≡ reply.TooMany)
turned_one Connect reply.TooMany e = (refl, refl)
turned_one event answer e = cc

-- whose one event is such a Connect made no other and has no connection
turned_away : {A : Type 0} (own : List (Receipt A)) → ((length own == 1) && list_all (λ r. is_turned_away r.event r.reply) own) ≡ true
    → (link_events_in own ≡ Connect ∷ []) × (conn_made own ≡ None)
turned_away {A} [] e = absurd (omega (arith, eqb-true 0 1 (and_parts (0 == 1) true e).0))
turned_away {A} (r ∷ []) e =
    let one = turned_one r.event r.reply (and_parts (is_turned_away r.event r.reply) true (and_parts (1 == 1) (is_turned_away r.event r.reply && true) e).1).0 in
    let nothing : List (Event A) = [] in
    let made : made_by r.event r.reply ≡ None = ap (λ event. made_by event r.reply) one.0 ∙ ap (λ answer. made_by Connect answer) one.1 in
    let all : List ℕ = [] in
    (ap (λ event. if not (is_some (ticket_of event)) then event ∷ nothing else nothing) one.0, ap (λ o. slice_get (cons_option o all) 0) made)
turned_away {A} (r ∷ s ∷ rs) e =
    let rest = list_all (λ (x : Receipt A). is_turned_away x.event x.reply) (r ∷ s ∷ rs) in
    absurd (omega (arith, eqb-true (length (r ∷ s ∷ rs)) 1 (and_parts (length (r ∷ s ∷ rs) == 1) rest e).0))

-- what a reader promised, and what the history confirms of it, is its row of the table
pub reader_row : {A : Type 0} (turns : ℕ) (steps : List (Step A)) (writer : ℕ) (first : Bool) (role : Role) (own : List (Receipt A)) (half : ReadHalf) (end : ReaderEnd) (conn : Option ℕ)
    → conn ≡ conn_made own → ReadsAs turns role end conn own half → is_reader_end steps writer first own end conn ≡ true
    → ReaderEnds turns steps writer first role own half end conn
reader_row turns steps writer first role own half Bytes (Some c) is reads confirms = (reads.counts, confirms, reads.row)
reader_row turns steps writer first role own half (Fault f) (Some c) is reads confirms = (confirms, reads.row)
reader_row turns steps writer first role own half ReadFailed (Some c) is reads confirms = (reads.counts, confirms, reads.row)
reader_row turns steps writer first role own half ReadFailed None is reads confirms = (reads.counts, reads.row)
reader_row turns steps writer first role own half Turns (Some c) is reads confirms = (reads.counts, confirms, reads.row)
reader_row turns steps writer first role own half Turns None is reads confirms = (reads.counts, reads.row)
reader_row turns steps writer first role own half NotLive (Some c) is reads confirms = (confirms, reads.row)
reader_row turns steps writer first role own half GreetingRefused None is reads confirms = (none_of own confirms, λ known. ((reads.row known).0, tt))
reader_row turns steps writer first role own half GreetingCut None is reads confirms =
    (reads.counts, none_of own confirms, λ known. ((reads.row known).0, tt))
reader_row turns steps writer first role own half TooMany None is reads confirms = (confirms, λ known. ((reads.row known).0, tt))
reader_row turns steps writer first role own half TooMany (Some c) is reads confirms =
    let no : Some c ≡ None = is ∙ (turned_away own confirms).1 in absurd (cc)
reader_row turns steps writer first role own half end (Some c) is reads confirms =
    let no : Some c ≡ None = is ∙ ap conn_made (none_of own confirms) in absurd (cc)
reader_row turns steps writer first role own half end None is reads confirms = absurd (cc)

-- and its row says all of that
pub reader_back : {A : Type 0} (turns : ℕ) (steps : List (Step A)) (writer : ℕ) (first : Bool) (role : Role) (own : List (Receipt A)) (half : ReadHalf) (end : ReaderEnd) (conn : Option ℕ)
    → ReaderEnds turns steps writer first role own half end conn
    → (half.is_known ≡ true → ReaderRow role end conn (link_events_in own) half.bytes) × (is_reader_end steps writer first own end conn ≡ true)
reader_back turns steps writer first role own half Bytes (Some c) row = (row.2, row.1)
reader_back turns steps writer first role own half (Fault f) (Some c) row = (row.1, row.0)
reader_back turns steps writer first role own half ReadFailed (Some c) row = (row.2, row.1)
reader_back turns steps writer first role own half ReadFailed None row = (row.1, refl)
reader_back turns steps writer first role own half Turns (Some c) row = (row.2, row.1)
reader_back turns steps writer first role own half Turns None row = (row.1, refl)
reader_back turns steps writer first role own half NotLive (Some c) row = (row.1, row.0)
reader_back {A} turns steps writer first role own half GreetingRefused None row =
    (λ known. ((row.1 known).0, ap link_events_in row.0), ap (λ (rs : List (Receipt A)). length rs == 0) row.0)
reader_back {A} turns steps writer first role own half GreetingCut None row =
    (λ known. ((row.2 known).0, ap link_events_in row.1), ap (λ (rs : List (Receipt A)). length rs == 0) row.1)
reader_back turns steps writer first role own half TooMany None row = (λ known. ((row.1 known).0, (turned_away own row.0).0), row.0)
reader_back turns steps writer first role own half end conn row = absurd row

-- the same of a writer
pub writer_row : {A : Type 0} (batch : ℕ) (steps : List (Step A)) (roles : List Role) (writer : ℕ) (role : Role) (own : List (Receipt A)) (half : WrittenHalf) (end : WriterEnd) (conn : Option ℕ)
    → WritesAs batch role end (packets_of own) half → is_writer_end (is_settled steps) roles steps writer role own end conn ≡ true
    → WriterEnds batch steps roles writer role own half end conn
writer_row batch steps roles writer role own half Drained (Some c) writes confirms = (writes.row, confirms)
writer_row batch steps roles writer role own half Closed (Some c) writes confirms = (writes.row, confirms)
writer_row batch steps roles writer role own half WriteFailed (Some c) writes confirms = (record { part = writes.row; hurt = writes.hurt refl }, confirms)
writer_row batch steps roles writer role own half WriteFailed None writes confirms = (record { part = writes.row; hurt = writes.hurt refl }, confirms)
writer_row batch steps roles writer role own half NeverOpened None writes confirms = writes.row
writer_row batch steps roles writer role own half end conn writes confirms = absurd (cc)

pub writer_back : {A : Type 0} (batch : ℕ) (steps : List (Step A)) (roles : List Role) (writer : ℕ) (role : Role) (own : List (Receipt A)) (half : WrittenHalf) (end : WriterEnd) (conn : Option ℕ)
    → WriterEnds batch steps roles writer role own half end conn
    → (half.is_known ≡ true → WriterRow batch end role (texts_of role own) half.bytes) × (is_writer_end (is_settled steps) roles steps writer role own end conn ≡ true)
writer_back batch steps roles writer role own half Drained (Some c) row = row
writer_back batch steps roles writer role own half Closed (Some c) row = row
writer_back batch steps roles writer role own half WriteFailed (Some c) row = (row.0.part, row.1)
writer_back batch steps roles writer role own half WriteFailed None row = (row.0.part, row.1)
writer_back batch steps roles writer role own half NeverOpened None row = (row, refl)
writer_back batch steps roles writer role own half end conn row = absurd row

-- what the headline says of a link's reader, as the body promised it and as the history confirms it
pub link_read : {Rd W A : Type 0} (reads : Rd → ReadHalf) (writes : W → WrittenHalf) (turns batch : ℕ) (roles : List Role) (report : Report Rd W A) (k : ℕ) (role : Role) (link : LinkReport Rd W A)
    → LinkHolds reads writes turns batch roles report k role link
    → ((reads link.reader).is_known ≡ true → ReaderRow role link.reader_end link.conn (link_events_in link.reader_receipts.items) (reads link.reader).bytes)
    × (is_reader_end report.history.items (number_in report (Writer k)) (may_close_first (list_all is_calling roles) role link.writer_end) link.reader_receipts.items link.reader_end link.conn ≡ true)
link_read reads writes turns batch roles report k role link holds =
    reader_back turns report.history.items (number_in report (Writer k)) (may_close_first (list_all is_calling roles) role link.writer_end) role link.reader_receipts.items (reads link.reader) link.reader_end link.conn holds.read

-- the same of its writer
pub link_written : {Rd W A : Type 0} (reads : Rd → ReadHalf) (writes : W → WrittenHalf) (turns batch : ℕ) (roles : List Role) (report : Report Rd W A) (k : ℕ) (role : Role) (link : LinkReport Rd W A)
    → LinkHolds reads writes turns batch roles report k role link
    → ((writes link.writer).is_known ≡ true → WriterRow batch link.writer_end role (texts_of role link.writer_receipts.items) (writes link.writer).bytes)
    × (is_writer_end (is_settled report.history.items) roles report.history.items (number_in report (Writer k)) role link.writer_receipts.items link.writer_end link.conn ≡ true)
link_written reads writes turns batch roles report k role link holds =
    writer_back batch report.history.items roles (number_in report (Writer k)) role link.writer_receipts.items (writes link.writer) link.writer_end link.conn holds.written
