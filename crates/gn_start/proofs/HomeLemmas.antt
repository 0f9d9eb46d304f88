-- What is known of a link that has ended, from what its two bodies promised and what was looked at.
use Rattle.std.proofs.Common.{◌≡◌, ◌≤◌, ◌==◌, ℕ, true, List, Option, Some, None, Result, Ok, length, take, reverse, refl, sym, ap, ◌∙◌, subst}
use Rattle.std.specs.Prelude.{IfOk, IfSome}
use Rattle.gn_rules.specs.declared.receipt.Receipt.{Receipt}
use Rattle.gn_rules.specs.declared.receipt.Step.{Step}
use Rattle.gn_rules.specs.Flight.{flying}
use Rattle.gn_actors.specs.ActorState.{ActorState}
use Rattle.gn_actors.specs.Tallies.{tally_of}
use Rattle.gn_links.specs.Halves.{IsReadFrom}
use Rattle.gn_laws.specs.Owners.{known_conn, packets_of}
use Rattle.gn_bodies.specs.declared.ends.ReaderEnd.{ReaderEnd}
use Rattle.gn_bodies.specs.declared.ends.ReaderEnd.TheVariants.{ReadFailed}
use Rattle.gn_bodies.specs.declared.ends.WriterEnd.{WriterEnd}
use Rattle.gn_bodies.specs.declared.reader.ReaderDone.{ReaderDone}
use Rattle.gn_bodies.specs.declared.writer.WriterDone.{WriterDone}
use Rattle.gn_bodies.specs.Done.{ReadsAs, WritesAs, half_of}
use Rattle.gn_bodies.specs.Written.{WriterDid, WriterSteps}
use Rattle.gn_hub.specs.Retired.{IsRetired}
use Rattle.gn_hub.specs.declared.retiring.Retired.{Retired}
use Rattle.gn_report.specs.Ended.{IsIdleAfter, IsLinkEnded, LinkViews}
use Rattle.gn_report.specs.declared.account.LinkAccount.{LinkAccount}
use Rattle.gn_report.specs.declared.account.LinkEnd.{LinkEnd}
use Rattle.gn_report.specs.declared.account.LinkEnd.TheVariants.{Whole, Cut}
use Rattle.gn_report.proofs.ClosedLemmas.{gone_is_closed}
use Rattle.gn_actors.specs.Registry.{RegistryState, with_home}
use Rattle.gn_start.specs.Homing.{HaveEnded, IsAccountOf, IsRightLink, IsWhole, ends_left, with_lists}
use Rattle.gn_start.specs.Joined.{IsReaderJoined, IsWriterJoined}
use Rattle.gn_start.specs.Kept.{IsKept, IsOne}
use Rattle.gn_start.specs.declared.fault.RunFault.{RunFault}
use Rattle.gn_start.specs.declared.homing.Ends.{Ends}
use Rattle.gn_start.specs.declared.incoming.NewLink.{NewLink}

-- what is so of a good end
at_end : {E F : Type 0} (P : E → Type 0) (r : Result E F) (end : E) → r ≡ Ok end → IfOk r P → P end
at_end {E} {F} P r end is holds = subst (λ (x : Result E F). IfOk x P) is holds

idle_seen : {A : Type 0} (steps : List (Step A)) (idle : Option ℕ) → ((at : ℕ) → idle ≡ Some at → (at ≤ length steps) × ((length (flying (reverse (take at steps))) == 0) ≡ true)) → IsIdleAfter steps idle
idle_seen steps None then = tt
idle_seen steps (Some at) then = then at refl

-- a link that has an account
module _ {Rd W B A O : Type 0} (turns batch : ℕ) (views : LinkViews Rd W O) (a b : ℕ) (c : NewLink Rd W) (reader : ReaderDone Rd B A) (writer : WriterDone W B A) (steps : List (Step A)) (retired : Retired A) where
  link_ended : (reading : ReaderEnd) (writing : WriterEnd) (link : LinkAccount Rd W A)
      → IsReaderJoined views.reads views.reader_of views.gives turns a (half_of c.role c.reader) reader → IsWriterJoined views.writes views.writer_of batch b (half_of c.role c.writer) writer
      → IsRetired steps reader.actor writer.actor reader.connection writer.idle retired → reader.end ≡ Ok reading → writer.end ≡ Ok writing
      → IsAccountOf (ends_left reader writer) retired reading writing link → IsRightLink retired.is_gone link → IsOne views c
      → IsLinkEnded turns batch views steps link
  link_ended reading writing link r w gone r_end w_end is right one =
      let role : link.role ≡ c.role = is.role ∙ r.role in
      let reads : link.reader_receipts.items ≡ reader.actor.receipts = is.reads ∙ gone.read in
      let writes : link.writer_receipts.items ≡ writer.actor.receipts = is.writes ∙ gone.written in
      let r_kept = at_end (λ (end : ReaderEnd). ReadsAs turns c.role end reader.connection reader.actor.receipts (views.reads reader.reader) × (reader.connection ≡ known_conn reader.actor.receipts)) reader.end reading r_end r.done.kept in
      let r_failed = at_end (λ (end : ReaderEnd). end ≡ ReadFailed → (views.gives (views.reader_of c.reader)).may_fail ≡ true) reader.end reading r_end r.done.failed in
      let w_kept = at_end (λ (end : WriterEnd). WritesAs batch c.role end (packets_of writer.actor.receipts) (views.writes writer.writer) × WriterDid c.role end writer.connection writer.actor.receipts) writer.end writing w_end w.done.kept.0 in
      let w_steps = at_end (λ (end : WriterEnd). WriterSteps c.role end writer.connection writer.found_closed writer.idle writer.actor.receipts) writer.end writing w_end w.steps in
      let half : link.reader ≡ reader.reader = is.reader in
      let other : link.writer ≡ writer.writer = is.writer in
      let origin : views.reader_of link.reader ≡ views.reader_of c.reader = ap views.reader_of half ∙ r.done.made in
      let idle_is : link.idle ≡ writer.idle = is.idle ∙ gone.same in
      record {
        read = subst (λ x. ReadsAs turns x link.reader_end link.conn link.reader_receipts.items (views.reads link.reader)) (sym role)
            (subst (λ x. ReadsAs turns c.role x link.conn link.reader_receipts.items (views.reads link.reader)) (sym is.reader_end)
            (subst (λ x. ReadsAs turns c.role reading x link.reader_receipts.items (views.reads link.reader)) (sym is.conn)
            (subst (λ x. ReadsAs turns c.role reading reader.connection x (views.reads link.reader)) (sym reads)
            (subst (λ x. ReadsAs turns c.role reading reader.connection reader.actor.receipts (views.reads x)) (sym half) r_kept.0))));
        known = is.conn ∙ r_kept.1 ∙ ap known_conn (sym reads);
        own = subst (λ x. IsReadFrom (views.gives x) (views.reads link.reader)) (sym origin) (subst (λ x. IsReadFrom (views.gives (views.reader_of c.reader)) (views.reads x)) (sym half) r.done.own);
        failed = λ e. ap (λ x. (views.gives x).may_fail) origin ∙ r_failed (sym is.reader_end ∙ e);
        wrote = subst (λ x. WritesAs batch x link.writer_end (packets_of link.writer_receipts.items) (views.writes link.writer)) (sym role)
            (subst (λ x. WritesAs batch c.role x (packets_of link.writer_receipts.items) (views.writes link.writer)) (sym is.writer_end)
            (subst (λ x. WritesAs batch c.role writing (packets_of x) (views.writes link.writer)) (sym writes)
            (subst (λ x. WritesAs batch c.role writing (packets_of writer.actor.receipts) (views.writes x)) (sym other) w_kept.0)));
        finished = ap (λ x. (views.writes x).is_finished) other ∙ w.done.kept.1;
        one = ap views.writer_of other ∙ w.done.made ∙ one ∙ sym origin;
        found = writer.found_closed;
        did = subst (λ x. WriterSteps x link.writer_end link.written_on writer.found_closed link.idle link.writer_receipts.items) (sym role)
            (subst (λ x. WriterSteps c.role x link.written_on writer.found_closed link.idle link.writer_receipts.items) (sym is.writer_end)
            (subst (λ x. WriterSteps c.role writing x writer.found_closed link.idle link.writer_receipts.items) (sym is.written_on)
            (subst (λ x. WriterSteps c.role writing writer.connection writer.found_closed x link.writer_receipts.items) (sym idle_is)
            (subst (λ x. WriterSteps c.role writing writer.connection writer.found_closed writer.idle x) (sym writes) w_steps))));
        idle = subst (IsIdleAfter steps) (sym idle_is) (idle_seen steps writer.idle gone.idle_then);
        same = right.same;
        closed = λ must conn at.
            let there : reader.connection ≡ Some conn = sym is.conn ∙ at in
            gone_is_closed steps reader.actor.number conn reader.actor.receipts gone.fits (sym r_kept.1 ∙ there) (gone.gone (right.gone must) conn there);
        first = right.first;
      }

  -- what is kept of the link, whether it has one or was cut
  pub link_kept : (left : Ends Rd W) (end : LinkEnd Rd W A) (fault : Option RunFault)
      → IsReaderJoined views.reads views.reader_of views.gives turns a (half_of c.role c.reader) reader → IsWriterJoined views.writes views.writer_of batch b (half_of c.role c.writer) writer
      → IsRetired steps reader.actor writer.actor reader.connection writer.idle retired → left ≡ ends_left reader writer
      → HaveEnded left retired end fault → IsOne views c
      → IsKept turns batch views steps c end retired.read.items retired.written.items
  link_kept left end None r w gone left_is have one =
      let whole = have.whole refl in
      let link = whole.link in
      let r_end : reader.end ≡ Ok whole.reading = sym (ap (λ (x : Ends Rd W). x.reader_end) left_is) ∙ whole.read in
      let w_end : writer.end ≡ Ok whole.writing = sym (ap (λ (x : Ends Rd W). x.writer_end) left_is) ∙ whole.wrote in
      let account : IsAccountOf (ends_left reader writer) retired whole.reading whole.writing link = subst (λ (x : Ends Rd W). IsAccountOf x retired whole.reading whole.writing link) left_is whole.account in
      let ended = link_ended whole.reading whole.writing link r w gone r_end w_end account whole.right one in
      let own : IsKept turns batch views steps c (Whole link) retired.read.items retired.written.items = (
        (ended, sym account.reads, sym account.writes),
        (account.role ∙ r.role, ap views.reader_of account.reader ∙ r.done.made),
      ) in
      subst (λ (x : LinkEnd Rd W A). IsKept turns batch views steps c x retired.read.items retired.written.items) (sym whole.is) own
  link_kept left end (Some fault) r w gone left_is have one =
      let reads : left.tally.read ≡ tally_of retired.read.items = ap (λ (x : Ends Rd W). x.tally.read) left_is ∙ ap tally_of (sym gone.read) in
      let writes : left.tally.written ≡ tally_of retired.written.items = ap (λ (x : Ends Rd W). x.tally.written) left_is ∙ ap tally_of (sym gone.written) in
      let own : IsKept turns batch views steps c (Cut left.tally) retired.read.items retired.written.items = ((reads, writes), tt) in
      subst (λ (x : LinkEnd Rd W A). IsKept turns batch views steps c x retired.read.items retired.written.items) (sym (have.cut refl)) own

-- how a link has ended that was looked at
pub looked_end : {Rd W A : Type 0} (left : Ends Rd W) (retired : Retired A) (reading : ReaderEnd) (writing : WriterEnd) (link : LinkAccount Rd W A) (end : LinkEnd Rd W A) (fault : Option RunFault)
    → IsAccountOf left retired reading writing link → left.reader_end ≡ Ok reading → left.writer_end ≡ Ok writing → (fault ≡ None → (end ≡ Whole link) × IsRightLink retired.is_gone link)
    → IfSome fault (λ _. end ≡ Cut (record { read = link.read; written = link.written })) → HaveEnded left retired end fault
looked_end left retired reading writing link end None is read wrote whole cut = record {
  whole = λ none. let seen = whole refl in record { link = link; reading = reading; writing = writing; is = seen.0; read = read; wrote = wrote; account = is; right = seen.1 };
  cut = λ some. absurd (cc some);
}
looked_end left retired reading writing link end (Some fault) is read wrote whole cut =
    let half = subst (λ n. end ≡ Cut (record { read = n; written = link.written })) is.tally.0 cut in
    let all = subst (λ n. end ≡ Cut (record { read = left.tally.read; written = n })) is.tally.1 half in
    record { whole = λ none. absurd (cc none); cut = λ some. all }

-- it has one where there was no fault
pub whole_kept : {Rd W A : Type 0} (left : Ends Rd W) (retired : Retired A) (end : LinkEnd Rd W A) (fault : Option RunFault) → HaveEnded left retired end fault → fault ≡ None → IsWhole end
whole_kept {Rd} {W} {A} left retired end fault have none = let whole = have.whole none in subst (λ (x : LinkEnd Rd W A). IsWhole x) (sym whole.is) tt

-- two actors came home, as their lists say
pub home_is : {A : Type 0} (r r' : RegistryState A) (me us : ActorState A) (a b : ℕ) (reads writes : List (Receipt A)) → r' ≡ with_home (with_home r me r'.seen) us r'.seen → me.number ≡ a → us.number ≡ b → me.receipts ≡ reads → us.receipts ≡ writes
    → r' ≡ with_lists r a reads b writes r'.seen
home_is r r' me us a b reads writes e of_a of_b e_reads e_writes =
    e ∙ ap (λ n. with_lists r n me.receipts us.number us.receipts r'.seen) of_a ∙ ap (λ n. with_lists r a me.receipts n us.receipts r'.seen) of_b
    ∙ ap (λ l. with_lists r a l b us.receipts r'.seen) e_reads ∙ ap (λ l. with_lists r a reads b l r'.seen) e_writes
