-- From what is known of each link that has ended and what is compared of a report to the headline.
use Rattle.std.proofs.Common.{◌≡◌, ◌<◌, ◌++◌, ◌∙◌, ℕ, Bool, true, List, length, map, get_or, Result, Ok, Err, sym, ap, subst, arith}
use Rattle.std.specs.List.{list_all}
use Rattle.std.specs.Prelude.{IfOk}
use Rattle.std.proofs.lemmas.List.{append-nil, get_or-map, length-map}
use Rattle.std.proofs.lemmas.Simd.{map-map}
use Rattle.gn_shake.specs.declared.role.Role.{Role}
use Rattle.gn_shake.specs.Greeting.{is_calling}
use Rattle.gn_bodies.specs.declared.ends.ReaderEnd.TheVariants.{Bytes}
use Rattle.gn_bodies.specs.Done.{ReadsAs, WritesAs}
use Rattle.gn_bodies.specs.ReaderRows.{SourceRow}
use Rattle.gn_laws.specs.Owners.{packets_of}
use Rattle.gn_links.specs.Halves.{ReadHalf, Source}
use Rattle.gn_report.specs.declared.account.Account.{Account}
use Rattle.gn_report.specs.declared.account.LinkAccount.{LinkAccount}
use Rattle.gn_report.specs.declared.report.LinkReport.{LinkReport}
use Rattle.gn_actors.specs.declared.who.Who.TheVariants.{Writer}
use Rattle.gn_report.specs.Actors.{number_in}
use Rattle.gn_report.specs.Accounts.{link_of, report_of}
use Rattle.gn_report.specs.BodyEnds.{is_settled, may_close_first}
use Rattle.gn_report.specs.Ended.{IsLinkEnded, LinkViews}
use Rattle.gn_report.specs.Flaw.{ReaderConfirmed, WriterConfirmed}
use Rattle.gn_report.proofs.ConfirmedLemmas.{Confirmed}
use Rattle.gn_threads.specs.Answers.{AreArrived}
use Rattle.gn_threads.specs.Headline.{AreMadeOf, LinkHolds, LinksReadOwn, ReadOwn}
use Rattle.gn_start.specs.Over.{AllEnded}
use Rattle.gn_threads.proofs.EndLemmas.{reader_row, writer_row}
use Rattle.gn_report.proofs.ConfirmedLemmas.{some_of}
use Rattle.gn_threads.proofs.ListLemmas.{same_maps}

module _ {Rd W A O : Type 0} (turns batch : ℕ) (views : LinkViews Rd W O) (account : Account Rd W A) (all : AllEnded turns batch views account.history.items account.links.items) where
  -- a link as the report of the account has it
  told_at : (k : ℕ) (d : LinkReport Rd W A) (some : LinkAccount Rd W A) → k < length (report_of account).links.items
      → get_or (report_of account).links.items k d ≡ link_of account.links.alloc (get_or account.links.items k some)
  told_at k d some within = get_or-map (link_of account.links.alloc) account.links.items k some d (omega (arith, within, length-map account.links.items (link_of account.links.alloc)))

  -- there is one
  some_link : (k : ℕ) → k < length (report_of account).links.items → LinkAccount Rd W A
  some_link k within = some_of account.links.items (omega (arith, within, length-map account.links.items (link_of account.links.alloc)))

  -- what is known of it
  ended_at : (k : ℕ) (some : LinkAccount Rd W A) → k < length (report_of account).links.items → IsLinkEnded turns batch views account.history.items (get_or account.links.items k some)
  ended_at k some within = all k some (omega (arith, within, length-map account.links.items (link_of account.links.alloc)))

  -- what holds of a link, by that and by what is confirmed of it
  pub links_hold : {originates : Bool} (roles : List Role) → map (λ link. link.role) account.links.items ≡ roles → Confirmed originates (is_settled account.history.items) roles (report_of account)
      → (k : ℕ) (role : Role) (link : LinkReport Rd W A) → k < length (report_of account).links.items
      → LinkHolds views.reads views.writes turns batch roles (report_of account) k (get_or roles k role) (get_or (report_of account).links.items k link)
  links_hold roles are sure k role link within =
      let report = report_of account in
      let steps = account.history.items in
      let some = some_link k within in
      let it = get_or account.links.items k some in
      let told = link_of account.links.alloc it in
      let is : get_or report.links.items k link ≡ told = told_at k link some within in
      let at = get_or roles k role in
      let role_is : at ≡ it.role =
      ap (λ (rs : List Role). get_or rs k role) (sym are) ∙ get_or-map (λ (l : LinkAccount Rd W A). l.role) account.links.items k some role (omega (arith, within, length-map account.links.items (link_of account.links.alloc))) in
      let reader = subst (λ (l : LinkReport Rd W A). ReaderConfirmed steps (list_all is_calling roles) (number_in report (Writer k)) at l) is (sure.reader k role link within) in
      let writer = subst (λ (l : LinkReport Rd W A). WriterConfirmed (is_settled steps) roles steps (number_in report (Writer k)) at l) is (sure.writer k role link within) in
      let ended = ended_at k some within in
      let reads = subst (λ r. ReadsAs turns r it.reader_end it.conn it.reader_receipts.items (views.reads it.reader)) (sym role_is) ended.read in
      let writes = subst (λ r. WritesAs batch r it.writer_end (packets_of it.writer_receipts.items) (views.writes it.writer)) (sym role_is) ended.wrote in
      let holds : LinkHolds views.reads views.writes turns batch roles report k at told = record {
        conn = reader.conn;
        reader = (reader.events, reader.once);
        read = reader_row turns steps (number_in report (Writer k)) (may_close_first (list_all is_calling roles) at it.writer_end) at it.reader_receipts.items (views.reads it.reader) it.reader_end it.conn
            reader.conn reads reader.end;
        writer = writer.events;
        written = writer_row batch steps roles (number_in report (Writer k)) at it.writer_receipts.items (views.writes it.writer) it.writer_end it.conn writes writer.end;
        finished = ended.finished;
      } in
      subst (λ (l : LinkReport Rd W A). LinkHolds views.reads views.writes turns batch roles report k at l) (sym is) holds

  -- what one reader read is its own link's
  read_own : (it : LinkAccount Rd W A) → IsLinkEnded turns batch views account.history.items it → ReadOwn (views.gives (views.reader_of it.reader)) it.reader_end (views.reads it.reader)
  read_own it ended =
      let half = views.reads it.reader in
      let source = views.gives (views.reader_of it.reader) in
      let whole : source.is_foretold ≡ true → it.reader_end ≡ Bytes → half.bytes ≡ source.bytes = λ foretold ends.
      let read = ended.own foretold in
      let none = read.ended (subst (λ e. SourceRow turns e half) ends ended.read.counts) in
      sym (read.whole ∙ ap (λ rest. half.bytes ++ rest) none ∙ append-nil half.bytes) in
      record { first = ended.own; whole = whole; failed = ended.failed }

  -- so of all, and the halves of each are of one link
  pub are_arrived : AreArrived views.reads views.gives views.reader_of views.writer_of (report_of account)
  are_arrived =
      let links = account.links.items in
      let heap = account.links.alloc in
      let report = report_of account in
      record {
        bytes = λ k source link within.
            let some = some_link k within in
            let it = get_or links k some in
            let is = told_at k link some within in
            let gives : LinkReport Rd W A → Source = λ l. views.gives (views.reader_of l.reader) in
            let here : get_or (map gives report.links.items) k source ≡ gives (link_of heap it) = get_or-map gives report.links.items k link source within ∙ ap gives is in
            let own : ReadOwn (get_or (map gives report.links.items) k source) it.reader_end (views.reads it.reader) =
            subst (λ s. ReadOwn s it.reader_end (views.reads it.reader)) (sym here) (read_own it (ended_at k some within)) in
            subst (λ (l : LinkReport Rd W A). ReadOwn (get_or (map gives report.links.items) k source) l.reader_end (views.reads l.reader)) (sym is) own;
        one = map-map (λ (l : LinkReport Rd W A). views.writer_of l.writer) (link_of heap) links
            ∙ (same_maps (λ (l : LinkAccount Rd W A). views.writer_of l.writer) (λ l. views.reader_of l.reader) links (λ k d below. (all k d below).one)
            ∙ sym (map-map (λ (l : LinkReport Rd W A). views.reader_of l.reader) (link_of heap) links));
      }

  -- their halves were split from the links that were to come
  pub are_made : {F : Type 0} (foreknown : O → F) (coming : List F) → map (λ link. foreknown (views.reader_of link.reader)) account.links.items ≡ coming
      → AreMadeOf (λ reader. foreknown (views.reader_of reader)) (λ writer. foreknown (views.writer_of writer)) coming (report_of account)
  are_made foreknown coming made =
      let links = account.links.items in
      let heap = account.links.alloc in
      record {
        readers = map-map (λ (l : LinkReport Rd W A). foreknown (views.reader_of l.reader)) (link_of heap) links ∙ made;
        writers = map-map (λ (l : LinkReport Rd W A). foreknown (views.writer_of l.writer)) (link_of heap) links
            ∙ (same_maps (λ (l : LinkAccount Rd W A). foreknown (views.writer_of l.writer)) (λ l. foreknown (views.reader_of l.reader)) links (λ k d below. ap foreknown (all k d below).one) ∙ made);
      }

-- where it is known from which links the halves were split, it is known what their readers are to give
pub own_of_known : {Rd W A O E : Type 0} (reads : Rd → ReadHalf) (reader_of : Rd → O) (writer_of : W → O) (gives : O → Source) (origins : List O) (r : Result (Account Rd W A) E)
    → IfOk r (λ account. AreMadeOf reader_of writer_of origins (report_of account)) → IfOk r (λ account. AreArrived reads gives reader_of writer_of (report_of account))
    → IfOk r (λ account. LinksReadOwn reads (map gives origins) (report_of account))
own_of_known reads reader_of writer_of gives origins (Err e) made arrived = tt
own_of_known {Rd} {W} {A} reads reader_of writer_of gives origins (Ok account) made arrived =
    subst (λ sources. LinksReadOwn reads sources (report_of account))
    (sym (map-map gives (λ (link : LinkReport Rd W A). reader_of link.reader) (report_of account).links.items) ∙ ap (map gives) made.readers) arrived.bytes
