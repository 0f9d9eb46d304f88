-- What was written piece by piece.
use Rattle.std.proofs.Common.{◌≡◌, ◌<◌, ◌≤◌, ℕ, ◌+◌, List, [], ◌∷◌, ◌++◌, length, take, drop, map, ap, ◌∙◌, sym, refl, append_assoc, append-nil, arith}
use Rattle.std.proofs.Common.{◌⊎◌, inl, inr, Bool, true, false, if◌then◌else◌, Option, Some, None, Ok, Err, subst}
use Rattle.std.specs.Prelude.{IfOk, Result}
use Rattle.std.proofs.Math.Seq.{take-add}
use Rattle.std.proofs.lemmas.Result.{IfOk-weaker}
use Rattle.gn_rules.specs.declared.receipt.Receipt.{Receipt}
use Rattle.gn_links.specs.Halves.{WrittenHalf}
use Rattle.gn_bodies.specs.declared.ends.BodyFault.{BodyFault}
use Rattle.gn_bodies.specs.declared.ends.WriterEnd.{WriterEnd}
use Rattle.gn_bodies.specs.declared.ends.WriterEnd.TheVariants.{Drained, WriteFailed, Closed, NeverOpened}
use Rattle.gn_bodies.specs.Done.{Half, IsWriterDone, WritesAs}
use Rattle.std.proofs.lemmas.List.{drop_at, length-map, map-append}
use Rattle.std.proofs.lemmas.List.Elements.{filter_map-append}
use Rattle.std.proofs.lemmas.List.Folds.{concat-append}
use Rattle.std.specs.List.{concat}
use Rattle.gn_wire.specs.Packet.{Packet}
use Rattle.gn_wire.specs.Encoding.{bytes_of}
use Rattle.gn_shake.specs.declared.role.Role.{Role}
use Rattle.gn_shake.specs.declared.role.Role.TheVariants.{Accepting, Calling, Plain}
use Rattle.gn_shake.specs.Greeting.{is_calling, request_text}
use Rattle.gn_rules.specs.History.{taken_of}
use Rattle.gn_hub.specs.ActorState.{ActorState}
use Rattle.gn_hub.specs.declared.next.Outgoing.{Outgoing}
use Rattle.gn_hub.specs.declared.next.Outgoing.TheVariants as outgoing
use Rattle.gn_hub.specs.Receipts.{HasClosed, HasTakenSome, IsDrainedAt, TakenAt, taken_receipt, with_receipts}
use Rattle.gn_bodies.specs.Events.{packets_of}
use Rattle.gn_laws.specs.Owners as laws
use Rattle.gn_bodies.specs.Writing.{HasNext, HasWrittenPackets, PacketSteps, WritesOn, WritesPackets, text_of}
use Rattle.gn_bodies.specs.Written.{AreTakes, HasWrittenText, ThenClosed, WriterDid, WriterRow, WriterSteps, opening_texts}
use Rattle.gn_bodies.proofs.EventLemmas.{drained_packets}

pub written_on : (t u s text piece : List ℕ) (n m : ℕ) → piece ≡ drop n text → t ≡ s ++ take n text → u ≡ t ++ take m piece → u ≡ s ++ take (n + m) text
written_on t u s text piece n m cut was more = more ∙ (ap (λ w. w ++ take m piece) was ∙ (append_assoc s (take n text) (take m piece) ∙ (ap (λ w. s ++ (take n text ++ take m w)) cut ∙ ap (λ w. s ++ w) (sym (take-add n m text)))))

-- all texts of a writer that took these packets
abbrev pub texts : Role → List Packet → List (List ℕ)
texts role ds = opening_texts role ++ map bytes_of ds

-- all of the texts except the last ones, at most so many, and a prefix of these
abbrev pub Breaks : ℕ → List (List ℕ) → List ℕ → Type 0
Breaks batch all written =
    (done last : List (List ℕ)) × (n : ℕ) × (all ≡ done ++ last) × (0 < length last) × (length last ≤ batch) × (written ≡ concat done ++ take n (concat last))

texts_more : (role : Role) (ds more : List Packet) → texts role (ds ++ more) ≡ texts role ds ++ map bytes_of more
texts_more role ds more = ap (λ w. opening_texts role ++ w) (map-append bytes_of ds more) ∙ sym (append_assoc (opening_texts role) (map bytes_of ds) (map bytes_of more))

-- some packets more are written
pub encoded_more : (role : Role) (ds es more : List Packet) (w u : List ℕ) → es ≡ ds ++ more → w ≡ concat (texts role ds) → u ≡ w ++ text_of more → u ≡ concat (texts role es)
encoded_more role ds es more w u e was did =
    let joined : concat (texts role es) ≡ concat (texts role ds) ++ text_of more = ap (λ x. concat (texts role x)) e ∙ (ap concat (texts_more role ds more) ∙ concat-append (texts role ds) (map bytes_of more)) in
    did ∙ (ap (λ x. x ++ text_of more) was ∙ sym joined)

-- a part of some packets more is written
pub encoded_part : (batch : ℕ) (role : Role) (ds es more : List Packet) (w u : List ℕ) (n : ℕ) → 0 < length more → length more ≤ batch → es ≡ ds ++ more → w ≡ concat (texts role ds)
    → u ≡ w ++ take n (text_of more) → Breaks batch (texts role es) u
encoded_part batch role ds es more w u n some few e was did = (
  texts role ds,
  map bytes_of more,
  n,
  ap (texts role) e ∙ texts_more role ds more,
  omega (arith, length-map more bytes_of),
  omega (arith, length-map more bytes_of),
  did ∙ ap (λ x. x ++ take n (text_of more)) was,
)

-- a part of the first text is written
pub opened_part : (text u w : List ℕ) (n : ℕ) → w ≡ [] → u ≡ w ++ take n text → Breaks 1 (text ∷ []) u
opened_part text u w n none more = ([], text ∷ [], n, refl, omega arith, omega arith, more ∙ ap (λ x. x ++ take n text) none ∙ ap (λ x. take n x) (sym (append-nil text)))

-- the one text of these was written, all of it
pub whole_text : (text : List ℕ) (all : List (List ℕ)) (is_all : Bool) (before after : WrittenHalf) → all ≡ text ∷ [] → (before.is_known ≡ true → before.bytes ≡ [])
    → HasWrittenText is_all text before after → is_all ≡ true → after.is_known ≡ true → after.bytes ≡ concat all
whole_text text all is_all before after only none did whole known =
    let was : before.is_known ≡ true = sym did.known ∙ known in
    did.all whole was ∙ ap (λ w. w ++ text) (none was) ∙ sym (append-nil text) ∙ ap concat (sym only)

-- or a part of it
pub part_text : (text : List ℕ) (all : List (List ℕ)) (is_all : Bool) (before after : WrittenHalf) → all ≡ text ∷ [] → (before.is_known ≡ true → before.bytes ≡ [])
    → HasWrittenText is_all text before after → is_all ≡ false → after.is_known ≡ true → Breaks 1 all after.bytes
part_text text all is_all before after only none did fails known =
    let was : before.is_known ≡ true = sym did.known ∙ known in
    let (n, more) = did.part fails was in
    subst (λ (a : List (List ℕ)). Breaks 1 a after.bytes) (sym only) (opened_part text after.bytes before.bytes n (none was) more)

-- what is written before a link has connected: the request of one that calls
abbrev called : Role → List ℕ
called role = if is_calling role then request_text else []

-- a link that calls has written its request
pub its_request : (role : Role) (text : List ℕ) → role ≡ Calling → text ≡ request_text → concat (text ∷ []) ≡ called role
its_request role text is same = append-nil text ∙ same ∙ ap called (sym is)

-- one that doesn't has none to write
pub no_request : (role : Role) → (role ≡ Accepting) ⊎ (role ≡ Plain) → called role ≡ []
no_request role (inl is) = ap called is
no_request role (inr is) = ap called is

-- a link that doesn't accept has no consent to write
pub no_consent : (role : Role) → (role ≡ Calling) ⊎ (role ≡ Plain) → called role ≡ concat (texts role [])
no_consent role (inl is) = ap called is ∙ sym (ap (λ r. concat (texts r [])) is)
no_consent role (inr is) = ap called is ∙ sym (ap (λ r. concat (texts r [])) is)

-- an actor that did nothing has taken nothing
pub takes_none : {A : Type 0} (c : ℕ) (me : ActorState A) → me.receipts ≡ [] → AreTakes c me.receipts
takes_none c me none = ([], none)

-- these packets were taken from connection c: at least one, and at most a batch
pub record Took {A : Type 0} (batch c : ℕ) (packets : List Packet) (me us : ActorState A) : Type 0 where
  pub more : packets_of us ≡ packets_of me ++ packets
  pub some : 0 < length packets
  pub few : length packets ≤ batch
  pub takes : AreTakes c me.receipts → AreTakes c us.receipts

-- the packets of receipts of packets that were taken
taken_packets : (A : Type 0) (c : ℕ) (taken : List TakenAt) → laws.packets_of {A = A} (map (taken_receipt c) taken) ≡ map (λ at. at.packet) taken
taken_packets A c [] = refl
taken_packets A c (at ∷ taken) = ap (λ w. at.packet ∷ w) (taken_packets A c taken)

-- some packets more are taken
pub takes_some : {A : Type 0} (batch c : ℕ) (taken : List TakenAt) (me us : ActorState A) → 0 < length taken → length taken ≤ batch → us ≡ record me { receipts = me.receipts ++ map (taken_receipt c) taken }
    → Took batch c (map (λ at. at.packet) taken) me us
takes_some {A} batch c taken me us some few got =
    let new : List (Receipt A) = map (taken_receipt c) taken in
    let ds : List Packet = map (λ at. at.packet) taken in
    let packets : packets_of us ≡ packets_of me ++ ds = ap packets_of got ∙ filter_map-append (λ r. taken_of r.reply) me.receipts new ∙ ap (λ w. packets_of me ++ w) (taken_packets A c taken) in
    record {
      more = packets;
      some = omega (arith, length-map taken (λ at. at.packet));
      few = omega (arith, length-map taken (λ at. at.packet));
      takes = λ was. (was.0 ++ taken, ap (λ w. w.receipts) got ∙ ap (λ w. w ++ new) was.1 ∙ sym (map-append (taken_receipt c) was.0 taken));
    }

-- how a writer on connection c ends that found no packet: it closed the drained connection, or did nothing
abbrev pub FoundNone : {A : Type 0} → WriterEnd → ℕ → Option ℕ → ActorState A → ActorState A → Type 0
FoundNone Drained c idle me us = IsDrainedAt c idle me us
FoundNone Closed c idle me us = us ≡ me
FoundNone WriteFailed c idle me us = ⊥
FoundNone NeverOpened c idle me us = ⊥

-- what was answered did what it says
pub asked_next : {A : Type 0} (batch c : ℕ) (next : Outgoing) (idle : Option ℕ) (me us : ActorState A) → (next ≡ outgoing.Packet → HasTakenSome batch c me us)
    → (next ≡ outgoing.Drained → IsDrainedAt c idle me us) → (next ≡ outgoing.Closed → us ≡ me) → HasNext batch c next idle me us
asked_next batch c outgoing.Packet idle me us took drained closed = took refl
asked_next batch c outgoing.Drained idle me us took drained closed = drained refl
asked_next batch c outgoing.Closed idle me us took drained closed = closed refl

-- it has written all that it took
pub found_none : {A : Type 0} (batch : ℕ) (role : Role) (end : WriterEnd) (c : ℕ) (idle : Option ℕ) (me us : ActorState A) (half : WrittenHalf) → FoundNone end c idle me us
    → WritesPackets batch role Closed c None me half → WritesPackets batch role end c idle us half
found_none batch role Drained c None me us half found was = absurd found
found_none batch role Drained c (Some at) me us half found was = record {
  written = record {
    row = λ known. was.written.row known ∙ ap (λ packets. concat (texts role packets)) (sym (drained_packets c me us (at, found)));
    hurt = λ ends. absurd (cc);
  };
  steps = (me.receipts, was.steps, (at, refl, ap (λ w. w.receipts) found));
}
found_none {A} batch role Closed c idle me us half found was = record {
  written = subst (λ (w : ActorState A). WritesAs batch role Closed (packets_of w) half) (sym found) was.written;
  steps = subst (λ (w : ActorState A). AreTakes c w.receipts) (sym found) was.steps;
}
found_none batch role WriteFailed c idle me us half found was = absurd found
found_none batch role NeverOpened c idle me us half found was = absurd found

-- packets were taken, and written whole
pub packets_written : {A : Type 0} (batch : ℕ) (role : Role) (c : ℕ) (packets : List Packet) (me us : ActorState A) (before after : WrittenHalf) → Took batch c packets me us
    → HasWrittenText true (text_of packets) before after → WritesPackets batch role Closed c None me before → WritesPackets batch role Closed c None us after
packets_written batch role c packets me us before after took did was = record {
  written = record {
    row = λ known.
        let is_known : before.is_known ≡ true = sym did.known ∙ known in
        encoded_more role (packets_of me) (packets_of us) packets before.bytes after.bytes took.more (was.written.row is_known) (did.all refl is_known);
    hurt = λ ends. absurd (cc);
  };
  steps = took.takes was.steps;
}

-- or in part
pub packets_broken : {A : Type 0} (batch : ℕ) (role : Role) (c : ℕ) (idle : Option ℕ) (packets : List Packet) (me us : ActorState A) (before after : WrittenHalf) → Took batch c packets me us
    → HasWrittenText false (text_of packets) before after → WritesPackets batch role Closed c None me before → WritesPackets batch role WriteFailed c idle us after
packets_broken batch role c idle packets me us before after took did was = record {
  written = record {
    row = λ known.
        let is_known : before.is_known ≡ true = sym did.known ∙ known in
        let (n, more) = did.part refl is_known in
        encoded_part batch role (packets_of me) (packets_of us) packets before.bytes after.bytes n took.some took.few took.more (was.written.row is_known) more;
    hurt = λ _. did.hurt refl;
  };
  steps = took.takes was.steps;
}

-- a text that was written so far is this one
pub same_text : (is_all all : Bool) (text other : List ℕ) (before after : WrittenHalf) → is_all ≡ all → text ≡ other → HasWrittenText is_all text before after → HasWrittenText all other before after
same_text is_all all text other before after is same did =
    subst (λ (b : Bool). HasWrittenText b other before after) is (subst (λ (t : List ℕ). HasWrittenText is_all t before after) same did)

-- packets were taken, and written whole or in part
pub packets_done : {A : Type 0} (batch : ℕ) (role : Role) (c : ℕ) (idle : Option ℕ) (packets : List Packet) (me us : ActorState A) (end : Option (Result WriterEnd BodyFault)) (before after : WrittenHalf)
    → Took batch c packets me us → HasWrittenPackets end packets before after → WritesPackets batch role Closed c None me before → WritesOn batch role end c idle us after
packets_done batch role c idle packets me us None before after took did was = packets_written batch role c packets me us before after took did was
packets_done batch role c idle packets me us (Some (Ok WriteFailed)) before after took did was = packets_broken batch role c idle packets me us before after took did was
packets_done batch role c idle packets me us (Some (Ok end)) before after took did was = absurd did
packets_done batch role c idle packets me us (Some (Err fault)) before after took did was = tt

-- so they were where the receipts that were got say so
pub packets_taken : {A : Type 0} (batch : ℕ) (role : Role) (c : ℕ) (idle : Option ℕ) (me us : ActorState A) (kept seen : List (Receipt A)) (end : Option (Result WriterEnd BodyFault)) (before after : WrittenHalf)
    → seen ≡ kept → us ≡ with_receipts me kept → HasTakenSome batch c me us → HasWrittenPackets end (laws.packets_of seen) before after
    → WritesPackets batch role Closed c None me before → WritesOn batch role end c idle us after
packets_taken {A} batch role c idle me us kept seen end before after same is (taken, some, few, got) did was =
    let fresh : List (Receipt A) = map (taken_receipt c) taken in
    let n : ℕ = length me.receipts in
    let both : me.receipts ++ kept ≡ me.receipts ++ fresh = ap (λ (w : ActorState A). w.receipts) (sym is ∙ got) in
    let cut : kept ≡ fresh = sym (drop_at me.receipts kept n refl) ∙ ap (λ w. drop n w) both ∙ drop_at me.receipts fresh n refl in
    packets_done batch role c idle (map (λ at. at.packet) taken) me us end before after (takes_some batch c taken me us some few got)
    (subst (λ (ps : List Packet). HasWrittenPackets end ps before after) (ap laws.packets_of (same ∙ cut) ∙ taken_packets A c taken) did) was

-- one that took one at once took a batch at once
wider_row : (batch : ℕ) (end : WriterEnd) (role : Role) (all : List (List ℕ)) (written : List ℕ) → 0 < batch → WriterRow 1 end role all written → WriterRow batch end role all written
wider_row batch WriteFailed role all written some (done, last, n, parts, more, few, is) = (done, last, n, parts, more, omega arith, is)
wider_row batch end role all written some row = row

-- what was written where nothing was taken
pub took_none : {A : Type 0} (batch : ℕ) (role : Role) (end : WriterEnd) (me : ActorState A) (half : WrittenHalf) → 0 < batch → me.receipts ≡ [] → WritesAs 1 role end [] half
    → WritesAs batch role end (packets_of me) half
took_none batch role end me half some none did =
    let wide : WritesAs batch role end [] half = record { row = λ known. wider_row batch end role (texts role []) half.bytes some (did.row known); hurt = did.hurt } in
    let no : packets_of me ≡ [] = ap laws.packets_of none in
    subst (λ packets. WritesAs batch role end packets half) (sym no) wide

-- a writer that did nothing on its connection yet
pub opened : {A : Type 0} (batch : ℕ) (role : Role) (end : WriterEnd) (c : ℕ) (idle : Option ℕ) (me : ActorState A) (half : WrittenHalf) → 0 < batch → me.receipts ≡ [] → WritesAs 1 role end [] half
    → PacketSteps end c idle me.receipts → WritesPackets batch role end c idle me half
opened batch role end c idle me half some none did steps = record { written = took_none batch role end me half some none did; steps = steps }

-- a writer that goes on
pub writes_more : {A : Type 0} (batch : ℕ) (role : Role) (asked : Option (Result WriterEnd BodyFault)) (c : ℕ) (idle : Option ℕ) (me : ActorState A) (half : WrittenHalf) → asked ≡ None
    → WritesOn batch role asked c idle me half → WritesPackets batch role Closed c None me half
writes_more batch role asked c idle me half is did = subst (λ (w : Option (Result WriterEnd BodyFault)). WritesOn batch role w c idle me half) is did

-- one that ends
pub writes_last : {A : Type 0} (batch : ℕ) (role : Role) (asked : Option (Result WriterEnd BodyFault)) (end : Result WriterEnd BodyFault) (c : ℕ) (idle : Option ℕ) (me : ActorState A) (half : WrittenHalf)
    → asked ≡ Some end → WritesOn batch role asked c idle me half → IfOk end (λ e. WritesPackets batch role e c idle me half)
writes_last batch role asked end c idle me half is did = subst (λ (w : Option (Result WriterEnd BodyFault)). WritesOn batch role w c idle me half) is did

-- a writer that closes nothing more is done with its steps
pub steps_kept : {A : Type 0} (role : Role) (end : WriterEnd) (c : ℕ) (found idle : Option ℕ) (own : List (Receipt A)) → ¬ (end ≡ WriteFailed) → PacketSteps end c idle own
    → WriterSteps role end (Some c) found idle own
steps_kept role WriteFailed c found idle own other steps = absurd (other refl)
steps_kept role end c found idle own other steps = steps

-- what a close does to the receipts
then_closed : {A : Type 0} (c : ℕ) (found : Option ℕ) (me us : ActorState A) → HasClosed c found me us → ThenClosed c found me.receipts us.receipts
then_closed c None me us (index, count, got) = (index, count, ap (λ w. w.receipts) got)
then_closed c (Some other) me us (is, same) = (is, ap (λ w. w.receipts) same)

-- so is one whose write failed, once it has closed its connection, or found it closed
pub steps_closed : {A : Type 0} (role : Role) (end : WriterEnd) (c : ℕ) (found idle : Option ℕ) (me us : ActorState A) → end ≡ WriteFailed → PacketSteps end c idle me.receipts → HasClosed c found me us
    → WriterSteps role end (Some c) found idle us.receipts
steps_closed role WriteFailed c found idle me us is steps closed = (me.receipts, steps, then_closed c found me us closed)
steps_closed role end c found idle me us is steps closed = absurd (cc)

-- what holds of an end, both
both_ok : {T E : Type 0} (r : Result T E) (P Q : T → Type 0) → IfOk r P → IfOk r Q → IfOk r (λ x. P x × Q x)
both_ok (Ok x) P Q this that = (this, that)
both_ok (Err e) P Q this that = tt

-- a writer that is finished keeps what its end says
pub finished_writer : {A W O : Type 0} (state : W → WrittenHalf) (made_of : W → O) (batch : ℕ) (link : Half W) (conn found idle : Option ℕ) (receipts : List (Receipt A)) (before after : W) (end : Result WriterEnd BodyFault)
    → made_of after ≡ made_of link.half → state after ≡ record (state before) { is_finished = true }
    → IfOk end (λ e. WritesAs batch link.role e (laws.packets_of receipts) (state before)) → IfOk end (λ e. WriterSteps link.role e conn found idle receipts)
    → IsWriterDone state made_of batch link (record { conn = conn; receipts = receipts; half = after; end = end })
finished_writer {A} state made_of batch link conn found idle receipts before after end made same was steps =
    let writes : WriterEnd → WrittenHalf → Type 0 = λ e h. WritesAs batch link.role e (laws.packets_of receipts) h in
    let more : IfOk end (λ e. writes e (record (state before) { is_finished = true })) = IfOk-weaker end (λ e. writes e (state before)) _ (λ e written. record { row = written.row; hurt = written.hurt }) was in
    let here : IfOk end (λ e. writes e (state after)) = subst (λ (h : WrittenHalf). IfOk end (λ e. writes e h)) (sym same) more in
    let did : IfOk end (λ e. WriterDid link.role e conn receipts) = IfOk-weaker end (λ e. WriterSteps link.role e conn found idle receipts) _ (λ e is. (found, idle, is)) steps in
    record {
      kept = (
        both_ok end (λ e. writes e (state after)) (λ e. WriterDid link.role e conn receipts) here did,
        subst (λ (h : WrittenHalf). h.is_finished ≡ true) (sym same) refl,
      );
      made = made;
    }
