-- Descriptors that were admitted together.
use Rattle.std.proofs.Common.{◌≡◌, ℕ, zero, suc, ◌+◌, ◌<◌, ◌≤◌, List, [], ◌∷◌, ◌++◌, drop, get_or, length, map, take, Result, Ok, Err, refl, sym, subst, ap, ◌∙◌, arith, append_assoc, append-nil}
use Rattle.std.specs.Prelude.{IfErr}
use Rattle.gn_bodies.specs.declared.piece.Halt.{Halt}
use Rattle.gn_bodies.specs.declared.piece.Halt.TheVariants as halt
use Rattle.std.proofs.lemmas.List.{drop-map, length-map, take-map, take_more}
use Rattle.std.proofs.lemmas.Grind.{common_steps, flat_map-append}
use Rattle.std.proofs.Math.Seq.{drop-append_seam, take-add}
use Rattle.gn_wire.specs.Packet.{Packet}
use Rattle.gn_rules.specs.declared.event.Event.{Event}
use Rattle.gn_rules.specs.declared.event.Event.TheVariants.{Admit}
use Rattle.gn_rules.specs.declared.receipt.Receipt.{Receipt}
use Rattle.gn_stage.specs.Jobs.{Queued}
use Rattle.gn_hub.specs.ActorState.{ActorState, receipt}
use Rattle.gn_hub.specs.declared.progress.Progress.{Progress}
use Rattle.gn_hub.specs.Receipts.{HasProgressed, HasReceipts, with_receipts}
use Rattle.gn_bodies.specs.Admitting.{Admitting, GoesOn, HasSameNumbers, IsOwing, IsSettled, KeepsConnection, jobs_by}
use Rattle.gn_bodies.specs.Events.{connection_of, link_events}
use Rattle.gn_bodies.specs.Jobs.{job_by, jobs_left}
use Rattle.gn_bodies.proofs.EventLemmas.{connection-receipt, link_events-receipt}
use Rattle.gn_bodies.proofs.JobLemmas.{jobs_left-push}

-- what an actor has that admitted these descriptors
pub record HasAdmittedAll {A : Type 0} (c : ℕ) (ds : List Packet) (me us : ActorState A) : Type 0 where
  pub got : List (Receipt A)
  pub receipts : us.receipts ≡ me.receipts ++ got
  pub events : map (λ r. r.event) got ≡ map (Admit c) ds
  pub number : us.number ≡ me.number
  pub connection : KeepsConnection me us
  pub link : link_events us ≡ link_events me ++ map (Admit c) ds
  pub left : jobs_left us.receipts ≡ jobs_left me.receipts ++ jobs_by got

pub admitted_all : {A : Type 0} (c : ℕ) (ds : List Packet) (me us : ActorState A) → HasReceipts (map (Admit c) ds) me us → HasAdmittedAll c ds me us
admitted_all c [] me us same = record {
  got = [];
  receipts = ap (λ w. w.receipts) same ∙ sym (append-nil me.receipts);
  events = refl;
  number = ap (λ w. w.number) same;
  connection = λ d was. ap connection_of same ∙ was;
  link = ap link_events same ∙ sym (append-nil (link_events me));
  left = ap (λ w. jobs_left w.receipts) same ∙ sym (append-nil (jobs_left me.receipts));
}
admitted_all {A} c (d ∷ ds) me us (mid, (index, reply, fits, got), more) =
    let rest = admitted_all c ds mid us more in
    let r = receipt index (Admit c d) reply in
    let one : jobs_left mid.receipts ≡ jobs_left me.receipts ++ job_by (Admit c d) reply = ap (λ w. jobs_left w.receipts) got ∙ jobs_left-push me.receipts r refl in
    record {
      got = r ∷ rest.got;
      receipts = rest.receipts ∙ ap (λ w. w.receipts ++ rest.got) got ∙ append_assoc me.receipts (r ∷ []) rest.got;
      events = ap (λ w. Admit c d ∷ w) rest.events;
      number = rest.number ∙ ap (λ w. w.number) got;
      connection = λ e was. rest.connection e (connection-receipt me mid r got e was);
      link = rest.link ∙ ap (λ w. w ++ map (Admit c) ds) (link_events-receipt me mid r got) ∙ append_assoc (link_events me) (Admit c d ∷ []) (map (Admit c) ds);
      left = rest.left ∙ ap (λ w. w ++ jobs_by rest.got) one ∙ append_assoc (jobs_left me.receipts) (job_by (Admit c d) reply) (jobs_by rest.got);
    }

-- their jobs are owed
pub owing_admitted : {A : Type 0} (c : ℕ) (ds : List Packet) (before : List Queued) (old me us : Admitting A) → me ≡ old → (did : HasAdmittedAll c ds me.actor us.actor) → us.intake ≡ me.intake
    → us.is_refused ≡ me.is_refused → IsSettled before old → IsOwing before (jobs_by did.got) us
owing_admitted {A} c ds before old me us first did intake refused settled other =
    let here : IsSettled before me = subst (λ (v : Admitting A). IsSettled before v) (sym first) settled in
    ap (λ w. w.jobs ++ jobs_by did.got) intake ∙ ap (λ w. w ++ jobs_by did.got) (here (sym refused ∙ other))
    ∙ append_assoc before (jobs_left me.actor.receipts) (jobs_by did.got) ∙ ap (λ w. before ++ w) (sym did.left)

-- each of these receipts is of an admission
pub admits_at : {A : Type 0} (c : ℕ) (ds : List Packet) (rs : List (Receipt A)) (i : ℕ) (r : Receipt A) → map (λ x. x.event) rs ≡ map (Admit c) ds → i < length rs → (d : Packet) × ((get_or rs i r).event ≡ Admit c d)
admits_at c ds [] i r is below = absurd (omega arith)
admits_at c [] (x ∷ rs) i r is below = absurd (cc)
admits_at c (d ∷ ds) (x ∷ rs) zero r is below = let same : x.event ≡ Admit c d = cc in (d, same)
admits_at c (d ∷ ds) (x ∷ rs) (suc i) r is below = let rest : map (λ y. y.event) rs ≡ map (Admit c) ds = cc in admits_at c ds rs i r rest (omega arith)

-- one receipt more
pub jobs_more : {A : Type 0} (rs : List (Receipt A)) (i : ℕ) (r : Receipt A) (jobs more found : List Queued) → i < length rs → r ≡ get_or rs i r → jobs ≡ jobs_by (take i rs) → found ≡ job_by r.event r.reply
    → more ≡ jobs ++ found → more ≡ jobs_by (take (i + 1) rs)
jobs_more {A} rs i r jobs more found within is was its grown =
    let f : Receipt A → List Queued = λ x. job_by x.event x.reply in
    let next : take (i + 1) rs ≡ take i rs ++ r ∷ [] = take_more rs i r within ∙ ap (λ x. take i rs ++ x ∷ []) (sym is) in
    grown ∙ ap (λ w. w ++ found) was ∙ ap (λ w. jobs_by (take i rs) ++ w) (its ∙ sym (append-nil (f r))) ∙ sym (ap jobs_by next ∙ flat_map-append f (take i rs) (r ∷ []))

-- as far as a call went
pub progressed : {A : Type 0} (c : ℕ) (ds : List Packet) (events : List (Event A)) (progress : Progress) (me us : ActorState A) → events ≡ map (Admit c) ds → HasProgressed events progress me us
    → HasAdmittedAll c (take progress.done ds) me us
progressed {A} c ds events progress me us is did =
    admitted_all c (take progress.done ds) me us (subst (λ w. HasReceipts w me us) (ap (λ w. take progress.done w) is ∙ take-map {Y = Event A} (Admit c) progress.done ds) did.receipts)

-- its events, by those that were asked for
pub linked : {A : Type 0} (c n : ℕ) (ds : List Packet) (events : List (Event A)) (me us : ActorState A) → events ≡ map (Admit c) ds → HasAdmittedAll c (take n ds) me us
    → link_events us ≡ link_events me ++ take n events
linked {A} c n ds events me us is did = did.link ∙ ap (λ w. link_events me ++ w) (sym (ap (λ w. take n w) is ∙ take-map {Y = Event A} (Admit c) n ds))

-- the receipts that are kept are those that it got
pub kept_got : {A : Type 0} (c : ℕ) (ds : List Packet) (kept : List (Receipt A)) (me us : ActorState A) → us ≡ with_receipts me kept → (did : HasAdmittedAll c ds me us) → kept ≡ did.got
kept_got c ds kept me us grown did =
    let both : me.receipts ++ kept ≡ me.receipts ++ did.got = sym (ap (λ w. w.receipts) grown) ∙ did.receipts in
    sym (drop-append_seam me.receipts kept) ∙ ap (λ w. drop (length me.receipts) w) both ∙ drop-append_seam me.receipts did.got

-- a reader goes on that admitted descriptors and put their jobs
pub went_on : {A : Type 0} (c : ℕ) (ds : List Packet) (kept : List (Receipt A)) (old me mid us : Admitting A) → me ≡ old → (did : HasAdmittedAll c ds me.actor mid.actor)
    → mid.actor ≡ with_receipts me.actor kept → mid.intake ≡ me.intake → mid.is_refused ≡ me.is_refused → HasSameNumbers mid us → KeepsConnection mid.actor us.actor
    → ((before : List Queued) (c : ℕ) (ds : List Packet) → map (λ r. r.event) kept ≡ map (Admit c) ds → IsOwing before (jobs_by kept) mid → IsSettled before us)
    → GoesOn old us
went_on {A} c ds kept old me mid us start did grown intake refused numbers stays settles =
    let same = kept_got c ds kept me.actor mid.actor grown did in
    record {
      numbers = (numbers.0 ∙ did.number ∙ ap (λ v. v.actor.number) start, numbers.1 ∙ ap (λ w. w.number) intake ∙ ap (λ v. v.intake.number) start);
      connection = λ d was. stays d (did.connection d (ap (λ v. connection_of v.actor) start ∙ was));
      settled = λ before is. settles before c ds (ap (λ w. map (λ r. r.event) w) same ∙ did.events)
          (subst (λ w. IsOwing before (jobs_by w) mid) (sym same) (owing_admitted c ds before old me mid start did intake refused is));
    }

pub goes_further : {A : Type 0} (me mid us : Admitting A) → GoesOn me mid → GoesOn mid us → GoesOn me us
goes_further me mid us first second = record {
  numbers = (second.numbers.0 ∙ first.numbers.0, second.numbers.1 ∙ first.numbers.1);
  connection = λ d was. second.connection d (first.connection d was);
  settled = λ before is. second.settled before (first.settled before is);
}

-- a part of the Admits is one
pub admits_part : {A : Type 0} (c at n : ℕ) (ds : List Packet) (events : List (Event A)) → events ≡ map (Admit c) ds → take n (drop at events) ≡ map (Admit c) (take n (drop at ds))
admits_part {A} c at n ds events is =
    ap (λ w. take n (drop at w)) is ∙ ap (λ w. take n w) (drop-map {Y = Event A} (Admit c) at ds) ∙ take-map {Y = Event A} (Admit c) n (drop at ds)

-- events were added on from a place
pub added_on : {A : Type 0} (events : List (Event A)) (at n k : ℕ) (start mid us : List (Event A)) → n ≤ length (take k (drop at events)) → mid ≡ start ++ take at events
    → us ≡ mid ++ take n (take k (drop at events)) → us ≡ start ++ take (at + n) events
added_on events at n k start mid us few was more =
    let same : take n (take k (drop at events)) ≡ take n (drop at events) = grind (arith, common_steps) in
    more ∙ ap (λ w. w ++ take n (take k (drop at events))) was ∙ append_assoc start (take at events) (take n (take k (drop at events)))
    ∙ ap (λ w. start ++ (take at events ++ w)) same ∙ ap (λ w. start ++ w) (sym (take-add at n events))

pub part_long : {X : Type 0} (xs : List X) (at k : ℕ) → at ≤ length xs → at + length (take k (drop at xs)) ≤ length xs
part_long xs at k within = grind (arith, common_steps)

-- where a call halted, by the descriptors
pub halted_so : {A X : Type 0} (answer : Result X Halt) (c : ℕ) (ds : List Packet) (events start was us : List (Event A)) → events ≡ map (Admit c) ds → was ≡ start
    → IfErr answer (λ why. why ≡ halt.NotLive → (n : ℕ) × (n < length events) × (us ≡ was ++ take n events))
    → IfErr answer (λ why. why ≡ halt.NotLive → (n : ℕ) × (n < length ds) × (us ≡ start ++ map (Admit c) (take n ds)))
halted_so (Ok x) c ds events start was us is first did = tt
halted_so {A} (Err why) c ds events start was us is first did = λ so.
    let (n, below, added) = did so in
    let long : length events ≡ length ds = ap (λ w. length w) is ∙ length-map {B = Event A} ds (Admit c) in
    (n, omega arith, added ∙ ap (λ w. w ++ take n events) first ∙ ap (λ w. start ++ take n w) is ∙ ap (λ w. start ++ w) (take-map {Y = Event A} (Admit c) n ds))
