-- Jobs that a worker takes and routes several at once.
use Rattle.std.proofs.Common.{◌≡◌, ℕ, ◌+◌, ◌<◌, ◌≤◌, List, [], ◌∷◌, ◌++◌, drop, length, map, take, Result, Ok, Err, refl, sym, subst, ap, ◌∙◌, arith, append_assoc, append-nil}
use Rattle.std.specs.Prelude.{OnOk}
use Rattle.std.proofs.lemmas.List.{length-map, map-append, take-map}
use Rattle.std.proofs.Math.Seq.{take-add}
use Rattle.gn_rules.specs.declared.event.Event.{Event}
use Rattle.gn_rules.specs.declared.event.Event.TheVariants.{Route}
use Rattle.gn_stage.specs.Ends.{End, with_job}
use Rattle.gn_stage.specs.Jobs.{Queued}
use Rattle.gn_hub.specs.declared.progress.Progress.{Progress}
use Rattle.gn_hub.specs.ActorState.{ActorState}
use Rattle.gn_hub.specs.Receipts.{HasProgressed, HasReceipts}
use Rattle.gn_bodies.specs.Events.{events_of, link_events}
use Rattle.gn_bodies.specs.Jobs.{HasTakenJobs, routes_by, routes_of, tickets_by}
use Rattle.gn_bodies.proofs.EventLemmas.{events-route, link_events-route, number-route}

-- what an actor has that routed these jobs
pub record HasRouted {A D : Type 0} (jobs : List (ℕ × D)) (me us : ActorState A) : Type 0 where
  pub number : us.number ≡ me.number
  pub routes : link_events us ≡ link_events me
  pub events : events_of us ≡ events_of me ++ routes_by jobs

routed_these : {A D : Type 0} (jobs : List (ℕ × D)) (me us : ActorState A) → HasReceipts (routes_by jobs) me us → HasRouted jobs me us
routed_these [] me us same = record {
  number = ap (λ w. w.number) same;
  routes = ap link_events same;
  events = ap events_of same ∙ sym (append-nil (events_of me));
}
routed_these (job ∷ jobs) me us (mid, got, more) =
    let rest = routed_these jobs mid us more in
    record {
      number = rest.number ∙ number-route job.0 me mid got;
      routes = rest.routes ∙ link_events-route job.0 me mid got;
      events = rest.events ∙ ap (λ w. w ++ routes_by jobs) (events-route job.0 me mid got) ∙ append_assoc (events_of me) (Route job.0 ∷ []) (routes_by jobs);
    }

-- the first of them, as far as a call went
pub routed_first : {A D : Type 0} (jobs : List (ℕ × D)) (progress : Progress) (me us : ActorState A) → HasProgressed (routes_by jobs) progress me us → HasRouted (take progress.done jobs) me us
routed_first {A} jobs progress me us did =
    routed_these (take progress.done jobs) me us (subst (λ w. HasReceipts w me us) (take-map {Y = Event A} (λ job. Route job.0) progress.done jobs) did.receipts)

pub below_routes : (A : Type 0) {D : Type 0} (jobs : List (ℕ × D)) (i : ℕ) → i < length (routes_by {A = A} jobs) → i < length jobs
below_routes A jobs i below = let long = length-map {B = Event A} jobs (λ job. Route job.0) in omega arith

pub within_routes : (A : Type 0) {D : Type 0} (jobs : List (ℕ × D)) (i : ℕ) → i ≤ length (routes_by {A = A} jobs) → i ≤ length jobs
within_routes A jobs i within = let long = length-map {B = Event A} jobs (λ job. Route job.0) in omega arith

-- a job more that was checked
pub tickets-push : {D : Type 0} (jobs more : List (ℕ × D)) (job : ℕ × D) (t : ℕ) → more ≡ jobs ++ job ∷ [] → job.0 ≡ t → tickets_by more ≡ tickets_by jobs ++ t ∷ []
tickets-push jobs more job t pushed same = ap tickets_by pushed ∙ map-append (λ j. j.0) jobs (job ∷ []) ∙ ap (λ u. tickets_by jobs ++ u ∷ []) same

-- a job more was taken, and is the last of those that were checked
pub took_more : {D : Type 0} (before mid after : End Queued) (job : Queued) (jobs more : List (ℕ × D)) → HasTakenJobs before mid jobs → after ≡ with_job mid job
    → tickets_by more ≡ tickets_by jobs ++ job.ticket ∷ [] → HasTakenJobs before after more
took_more before mid after job jobs more (taken, is, same) grown pushed = (
  taken ++ job ∷ [],
  grown ∙ ap (λ w. with_job w job) is ∙ ap (λ w. record before { jobs = w }) (append_assoc before.jobs taken (job ∷ [])),
  pushed ∙ ap (λ w. w ++ job.ticket ∷ []) same ∙ sym (map-append (λ j. j.ticket) taken (job ∷ [])),
)

pub took_none : {D : Type 0} (before after : End Queued) (jobs : List (ℕ × D)) → after ≡ before → jobs ≡ [] → HasTakenJobs before after jobs
took_none before after jobs same none =
    let nothing : List Queued = [] in
    (nothing, same ∙ ap (λ w. record before { jobs = w }) (sym (append-nil before.jobs)), ap tickets_by none)

-- the routes of what was taken
routes_taken : {A D : Type 0} (before after : End Queued) (jobs : List (ℕ × D)) → HasTakenJobs before after jobs → routes_of {A = A} after.jobs ≡ routes_of before.jobs ++ routes_by jobs
routes_taken {A} before after jobs (taken, is, same) =
    let both : routes_by {A = A} jobs ≡ routes_of taken = by_tickets jobs ∙ ap (λ ts. map Route ts) same ∙ sym (of_tickets taken) in
    ap (λ w. routes_of w.jobs) is ∙ map-append (λ job. Route job.ticket) before.jobs taken ∙ ap (λ w. routes_of before.jobs ++ w) (sym both)
  where
    by_tickets : {D : Type 0} (js : List (ℕ × D)) → routes_by {A = A} js ≡ map Route (tickets_by js)
    by_tickets [] = refl
    by_tickets (j ∷ js) = ap (λ w. Route j.0 ∷ w) (by_tickets js)

    of_tickets : (js : List Queued) → routes_of {A = A} js ≡ map Route (map (λ j. j.ticket) js)
    of_tickets [] = refl
    of_tickets (j ∷ js) = ap (λ w. Route j.ticket ∷ w) (of_tickets js)

pub when_ok : {X E P : Type 0} (answer : Result X E) (x : X) → answer ≡ Ok x → OnOk answer P → P
when_ok {P = P} answer x is did = subst (λ w. OnOk w P) is did

-- jobs were routed on from a place
pub routed_on : {A D E : Type 0} (end : Result (Unit {0}) E) (jobs rest : List (ℕ × D)) (at n : ℕ) (start : List (Event A)) (me us : ActorState A) → rest ≡ drop at jobs
    → events_of us ≡ events_of me ++ routes_by (take n rest)
    → OnOk end (events_of me ≡ start ++ routes_by (take at jobs)) → OnOk end (events_of us ≡ start ++ routes_by (take (at + n) jobs))
routed_on {A} (Ok u) jobs rest at n start me us is more was =
    let parts : routes_by (take (at + n) jobs) ≡ routes_by (take at jobs) ++ routes_by (take n rest) =
    ap routes_by (take-add at n jobs ∙ ap (λ w. take at jobs ++ take n w) (sym is)) ∙ map-append (λ j. Route j.0) (take at jobs) (take n rest) in
    more ∙ ap (λ w. w ++ routes_by (take n rest)) was ∙ append_assoc start (routes_by (take at jobs)) (routes_by (take n rest)) ∙ ap (λ w. start ++ w) (sym parts)
routed_on (Err e) jobs rest at n start me us is more was = tt

-- taken jobs were routed
pub routed_taken : {A D E : Type 0} (end : Result (Unit {0}) E) (start : List (Event A)) (jobs : List (ℕ × D)) (before after : End Queued) (me us : ActorState A)
    → HasTakenJobs before after jobs → events_of us ≡ events_of me ++ routes_by jobs
    → OnOk end (routes_of before.jobs ≡ start ++ events_of me) → OnOk end (routes_of after.jobs ≡ start ++ events_of us)
routed_taken (Ok u) start jobs before after me us taken routed was =
    routes_taken before after jobs taken ∙ ap (λ w. w ++ routes_by jobs) was ∙ append_assoc start (events_of me) (routes_by jobs) ∙ ap (λ w. start ++ w) (sym routed)
routed_taken (Err e) start jobs before after me us taken routed was = tt

-- at the end none was taken
pub none_taken : {A D E : Type 0} (end : Result (Unit {0}) E) (start : List (Event A)) (jobs : List (ℕ × D)) (before after : End Queued) (me : ActorState A)
    → HasTakenJobs before after jobs → jobs ≡ []
    → OnOk end (routes_of before.jobs ≡ start ++ events_of me) → OnOk end (routes_of after.jobs ≡ start ++ events_of me)
none_taken (Ok u) start jobs before after me taken none was = routes_taken before after jobs taken ∙ ap (λ w. routes_of before.jobs ++ routes_by w) none ∙ append-nil (routes_of before.jobs) ∙ was
none_taken (Err e) start jobs before after me taken none was = tt
