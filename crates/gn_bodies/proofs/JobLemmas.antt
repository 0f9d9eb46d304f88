-- The jobs that receipts leave, with one receipt more.
use Rattle.std.proofs.Common.{◌≡◌, inl, inr, ℕ, Bool, true, false, cond, List, [], ◌∷◌, ◌++◌, map, Option, Some, None, refl, ap, ◌∙◌, sym, subst, append_assoc, append-nil, arith, nat_eq}
use Rattle.std.specs.Prelude.{MatchResult, Result}
use Rattle.gn_wire.specs.Packet.{Packet}
use Rattle.gn_rules.specs.declared.event.Event.{Event}
use Rattle.gn_rules.specs.declared.event.Event.TheVariants.{Close, Admit, Route}
use Rattle.gn_rules.specs.declared.receipt.Receipt.{Receipt}
use Rattle.gn_rules.specs.declared.reply.Reply.{Reply}
use Rattle.gn_rules.specs.declared.reply.Reply.TheVariants.{Closed, Admitted}
use Rattle.gn_rules.specs.Fits.{is_at_threshold}
use Rattle.gn_stage.specs.Jobs.{Queued}
use Rattle.gn_hub.specs.ActorState.{ActorState, receipt, with_receipt}
use Rattle.gn_hub.specs.Receipts.{HasClosed, HasReceipt}
use Rattle.gn_bodies.specs.declared.ends.BodyFault.{BodyFault}
use Rattle.gn_bodies.specs.Admitting.{Admitting, GoesOn, HasAdmitted, HasOnlyConnected, IsOwed, IsOwing, IsSettled}
use Rattle.gn_bodies.specs.Events.{connection_of, events_of}
use Rattle.gn_bodies.specs.Jobs.{is_route, is_routed_next, is_route_of, job_by, jobs_left}
use Rattle.gn_bodies.proofs.EventLemmas.{MayClose, close_connection, close_number, may_close}

no_route : {A : Type 0} (reply : Reply A) (event : Event A) → is_route event ≡ false → is_route_of reply event ≡ false
no_route (Admitted t) (Route u) other = absurd (cc)
no_route reply event other = refl

routed_next-push : {A : Type 0} (reply : Reply A) (rs : List (Receipt A)) (r : Receipt A) → is_route r.event ≡ false → is_routed_next reply (rs ++ r ∷ []) ≡ is_routed_next reply rs
routed_next-push reply [] r other = no_route reply r.event other
routed_next-push reply (x ∷ rs) r other = refl

-- a receipt that is other route leaves its job
pub jobs_left-push : {A : Type 0} (rs : List (Receipt A)) (r : Receipt A) → is_route r.event ≡ false → jobs_left (rs ++ r ∷ []) ≡ jobs_left rs ++ job_by r.event r.reply
jobs_left-push [] r other = append-nil (job_by r.event r.reply)
jobs_left-push (x ∷ rs) r other =
    let first = λ (routed : Bool). cond routed [] (job_by x.event x.reply) in
    ap (λ routed. first routed ++ jobs_left (rs ++ r ∷ [])) (routed_next-push x.reply rs r other)
    ∙ ap (λ w. first (is_routed_next x.reply rs) ++ w) (jobs_left-push rs r other)
    ∙ sym (append_assoc (first (is_routed_next x.reply rs)) (jobs_left rs) (job_by r.event r.reply))

-- an admission and its own route leave other job
pub jobs_left-routed : {A : Type 0} (rs : List (Receipt A)) (i j c t : ℕ) (d : Packet) (reply : Reply A)
    → jobs_left ((rs ++ receipt i (Admit c d) (Admitted t) ∷ []) ++ receipt j (Route t) reply ∷ []) ≡ jobs_left rs
jobs_left-routed [] i j c t d reply =
    let same : nat_eq t t ≡ true = grind (arith) in
    ap (λ routed. cond routed [] (record { ticket = t; descriptor = d } ∷ []) ++ []) same
jobs_left-routed (x ∷ []) i j c t d reply =
    ap (λ w. cond (is_route_of x.reply (Admit c d)) [] (job_by x.event x.reply) ++ w) (jobs_left-routed [] i j c t d reply)
    ∙ ap (λ routed. cond routed [] (job_by x.event x.reply) ++ []) (no_route x.reply (Admit c d) refl)
jobs_left-routed (x ∷ y ∷ rs) i j c t d reply =
    ap (λ w. cond (is_route_of x.reply y.event) [] (job_by x.event x.reply) ++ w) (jobs_left-routed (y ∷ rs) i j c t d reply)

-- a receipt that leaves other job settles nothing new
pub left_none : {A : Type 0} (me us : ActorState A) (r : Receipt A) → us ≡ with_receipt me r → is_route r.event ≡ false → job_by r.event r.reply ≡ [] → jobs_left us.receipts ≡ jobs_left me.receipts
left_none me us r got other none =
    ap (λ w. jobs_left w.receipts) got ∙ jobs_left-push me.receipts r other ∙ ap (λ w. jobs_left me.receipts ++ w) none ∙ append-nil (jobs_left me.receipts)

pub close_jobs : {A : Type 0} (c : ℕ) (me us : ActorState A) → MayClose c me us → jobs_left us.receipts ≡ jobs_left me.receipts
close_jobs c me us (inl same) = ap (λ w. jobs_left w.receipts) same
close_jobs c me us (inr (index, count, got)) = left_none me us (receipt index (Close c) (Closed count)) got refl refl

-- a close leaves all settled
pub close_settled : {A : Type 0} (c : ℕ) (jobs : List Queued) (old me us : Admitting A) → me ≡ old → MayClose c me.actor us.actor → us.intake ≡ me.intake → us.is_refused ≡ me.is_refused
    → IsSettled jobs old → IsSettled jobs us
close_settled {A} c jobs old me us first closed intake refused settled other =
    let here : IsSettled jobs me = subst (λ (v : Admitting A). IsSettled jobs v) (sym first) settled in
    ap (λ w. w.jobs) intake ∙ here (sym refused ∙ other) ∙ ap (λ left. jobs ++ left) (sym (close_jobs c me.actor us.actor closed))

-- a reader that closes goes on
pub closing : {A : Type 0} (c : ℕ) (answer : Result (Option ℕ) BodyFault) (old me us : Admitting A) → me ≡ old → MatchResult answer (λ found. HasClosed c found me.actor us.actor) (λ _. us.actor ≡ me.actor)
    → us.intake ≡ me.intake → us.is_refused ≡ me.is_refused → GoesOn old us
closing {A} c answer old me us first did intake refused =
    let closed = may_close c answer me.actor us.actor did in
    record {
      numbers = (close_number c me.actor us.actor closed ∙ ap (λ v. v.actor.number) first, ap (λ w. w.number) intake ∙ ap (λ v. v.intake.number) first);
      connection = λ d was. close_connection c me.actor us.actor closed d (ap (λ v. connection_of v.actor) first ∙ was);
      settled = λ jobs is. close_settled c jobs old me us first closed intake refused is;
    }

-- an admission at a threshold leaves no job
no_job : {A : Type 0} (c : ℕ) (d : Packet) (reply : Reply A) → is_at_threshold reply ≡ true → job_by (Admit c d) reply ≡ []
no_job c d (Admitted t) reached = absurd (cc)
no_job c d reply reached = refl

pub away_jobs : {A : Type 0} (c : ℕ) (d : Packet) (me us : ActorState A) → HasAdmitted c d None me us → jobs_left us.receipts ≡ jobs_left me.receipts
away_jobs c d me us (index, reply, got, reached) = left_none me us (receipt index (Admit c d) reply) got refl (no_job c d reply reached)

-- an actor that did nothing leaves all settled
pub kept_settled : {A : Type 0} (jobs : List Queued) (old me us : Admitting A) → me ≡ old → us.actor ≡ me.actor → us.intake ≡ me.intake → us.is_refused ≡ me.is_refused → IsSettled jobs old → IsSettled jobs us
kept_settled {A} jobs old me us first actor intake refused settled other =
    let here : IsSettled jobs me = subst (λ (v : Admitting A). IsSettled jobs v) (sym first) settled in
    ap (λ w. w.jobs) intake ∙ here (sym refused ∙ other) ∙ ap (λ w. jobs ++ jobs_left w.receipts) (sym actor)

-- so does one that only connected
pub connected_settled : {A : Type 0} (made : Option ℕ) (jobs : List Queued) (old me us : Admitting A) → me ≡ old → old.actor.receipts ≡ [] → HasOnlyConnected made us.actor → us.intake ≡ me.intake
    → us.is_refused ≡ me.is_refused → IsSettled jobs old → IsSettled jobs us
connected_settled {A} made jobs old me us first none did intake refused settled other =
    let here : IsSettled jobs me = subst (λ (v : Admitting A). IsSettled jobs v) (sym first) settled in
    let start : me.actor.receipts ≡ [] = ap (λ v. v.actor.receipts) first ∙ none in
    ap (λ w. w.jobs) intake ∙ here (sym refused ∙ other) ∙ ap (λ w. jobs ++ jobs_left w) start ∙ ap (λ left. jobs ++ left) (sym did.none_left)

-- an admitted job is owed
pub owed : {A : Type 0} (c : ℕ) (d : Packet) (job : Queued) (jobs : List Queued) (old me us : Admitting A) → me ≡ old → HasAdmitted c d (Some job) me.actor us.actor
    → us.intake ≡ me.intake → us.is_refused ≡ me.is_refused → IsSettled jobs old → IsOwed jobs job us
owed {A} c d job jobs old me us first (index, same, got) intake refused settled =
    let here : IsSettled jobs me = subst (λ (v : Admitting A). IsSettled jobs v) (sym first) settled in
    record {
      index = index;
      connection = c;
      earlier = me.actor.receipts;
      last = ap (λ w. w.receipts) got ∙ ap (λ p. me.actor.receipts ++ receipt index (Admit c p) (Admitted job.ticket) ∷ []) (sym same);
      settled = λ other. ap (λ w. w.jobs) intake ∙ here (sym refused ∙ other);
    }

-- where none was, all that was settled is
pub away_settled : {A : Type 0} (c : ℕ) (d : Packet) (jobs : List Queued) (old me us : Admitting A) → me ≡ old → HasAdmitted c d None me.actor us.actor
    → us.intake ≡ me.intake → us.is_refused ≡ me.is_refused → IsSettled jobs old → IsSettled jobs us
away_settled {A} c d jobs old me us first away intake refused settled other =
    let here : IsSettled jobs me = subst (λ (v : Admitting A). IsSettled jobs v) (sym first) settled in
    ap (λ w. w.jobs) intake ∙ here (sym refused ∙ other) ∙ ap (λ left. jobs ++ left) (sym (away_jobs c d me.actor us.actor away))

-- once it is put, all is settled
pub settled_put : {A : Type 0} (jobs : List Queued) (job : Queued) (old me us : Admitting A) → me ≡ old → IsOwed jobs job old → us.actor ≡ me.actor → us.is_refused ≡ me.is_refused
    → us.intake.jobs ≡ me.intake.jobs ++ job ∷ [] → IsSettled jobs us
settled_put {A} jobs job old me us first was actor refused put other =
    let is : IsOwed jobs job me = subst (λ (v : Admitting A). IsOwed jobs job v) (sym first) was in
    let r = receipt is.index (Admit is.connection job.descriptor) (Admitted job.ticket) in
    let left : jobs_left us.actor.receipts ≡ jobs_left is.earlier ++ job ∷ [] =
    ap (λ w. jobs_left w.receipts) actor ∙ ap jobs_left is.last ∙ jobs_left-push is.earlier r refl in
    put ∙ ap (λ w. w ++ job ∷ []) (is.settled (sym refused ∙ other)) ∙ append_assoc jobs (jobs_left is.earlier) (job ∷ []) ∙ ap (λ w. jobs ++ w) (sym left)

-- once it is routed, too
pub settled_routed : {A : Type 0} (jobs : List Queued) (job : Queued) (t : ℕ) (old me us : Admitting A) → me ≡ old → t ≡ job.ticket → IsOwed jobs job old → HasReceipt (Route t) me.actor us.actor
    → us.is_refused ≡ me.is_refused → us.intake ≡ me.intake → IsSettled jobs us
settled_routed {A} jobs job t old me us first ticket was (index, reply, fits, got) refused intake other =
    let is : IsOwed jobs job me = subst (λ (v : Admitting A). IsOwed jobs job v) (sym first) was in
    let left : jobs_left us.actor.receipts ≡ jobs_left is.earlier =
    ap (λ w. jobs_left w.receipts) got ∙ ap (λ w. jobs_left (w ++ receipt index (Route t) reply ∷ [])) is.last
    ∙ ap (λ u. jobs_left ((is.earlier ++ receipt is.index (Admit is.connection job.descriptor) (Admitted job.ticket) ∷ []) ++ receipt index (Route u) reply ∷ [])) ticket
    ∙ jobs_left-routed is.earlier is.index index is.connection job.ticket job.descriptor reply in
    ap (λ w. w.jobs) intake ∙ is.settled (sym refused ∙ other) ∙ ap (λ w. jobs ++ w) (sym left)

-- of several that are owed one was put
pub owing_put : {A : Type 0} (before left : List Queued) (job : Queued) (old me us : Admitting A) → me ≡ old → IsOwing before (job ∷ left) old → us.actor ≡ me.actor → us.is_refused ≡ me.is_refused
    → us.intake.jobs ≡ me.intake.jobs ++ job ∷ [] → IsOwing before left us
owing_put {A} before left job old me us first was actor refused put other =
    let is : IsOwing before (job ∷ left) me = subst (λ (v : Admitting A). IsOwing before (job ∷ left) v) (sym first) was in
    ap (λ w. w ++ left) put ∙ append_assoc me.intake.jobs (job ∷ []) left ∙ is (sym refused ∙ other) ∙ ap (λ w. before ++ jobs_left w.receipts) (sym actor)

pub owing_next : {A : Type 0} (before jobs left : List Queued) (job : Queued) (me : Admitting A) → jobs ≡ job ∷ left → IsOwing before jobs me → IsOwing before (job ∷ left) me
owing_next {A} before jobs left job me is was = subst (λ w. IsOwing before w me) is was

-- an actor that did nothing has routed nothing
pub routes_none : {A : Type 0} (start : List (Event A)) (me : ActorState A) → me.receipts ≡ [] → start ≡ start ++ events_of me
routes_none {A} start me none = sym (ap (λ (rs : List (Receipt A)). start ++ map (λ r. r.event) rs) none ∙ append-nil start)
