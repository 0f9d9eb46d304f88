-- The jobs of an actor's receipts.
use Rattle.std.specs.Prelude.{◌≡◌, ℕ, is_some, Bool, false, ◌==◌, if◌then◌else◌, List, [], ◌∷◌, ◌++◌, map}
use Rattle.gn_rules.specs.declared.event.Event.{Event}
use Rattle.gn_rules.specs.declared.event.Event.TheVariants.{Admit, Route}
use Rattle.gn_rules.specs.declared.receipt.Receipt.{Receipt}
use Rattle.gn_rules.specs.declared.reply.Reply.{Reply}
use Rattle.gn_rules.specs.declared.reply.Reply.TheVariants.{Admitted}
use Rattle.gn_rules.specs.History.{ticket_of}
use Rattle.gn_stage.specs.Ends.{End}
use Rattle.gn_stage.specs.Jobs.{Queued}

-- the job of an admission: the descriptor with the ticket that it got
abbrev pub job_by : {A : Type 0} → Event A → Reply A → List Queued
job_by (Admit c d) (Admitted t) = record { ticket = t; descriptor = d } ∷ []
job_by event reply = []

-- whether an event is a route
abbrev pub is_route : {A : Type 0} → Event A → Bool
is_route event = is_some (ticket_of event)

-- whether an event routes the ticket that a reply gave
abbrev pub is_route_of : {A : Type 0} → Reply A → Event A → Bool
is_route_of (Admitted t) (Route u) = t == u
is_route_of reply event = false

-- whether the next receipt routes the ticket that a reply gave
abbrev pub is_routed_next : {A : Type 0} → Reply A → List (Receipt A) → Bool
is_routed_next reply [] = false
is_routed_next reply (r ∷ rs) = is_route_of reply r.event

-- the jobs that receipts leave to others: each admitted descriptor with its ticket, except one that the next receipt routes
abbrev pub jobs_left : {A : Type 0} → List (Receipt A) → List Queued
jobs_left [] = []
jobs_left (r ∷ rs) = (if is_routed_next r.reply rs then [] else job_by r.event r.reply) ++ jobs_left rs

-- the routes of these jobs, in order
abbrev pub routes_of : {A : Type 0} → List Queued → List (Event A)
routes_of jobs = map (λ job. Route job.ticket) jobs

-- the tickets of jobs that were checked, in order
abbrev pub tickets_by : {D : Type 0} → List (ℕ × D) → List ℕ
tickets_by jobs = map (λ job. job.0) jobs

-- an outlet took more jobs, and they are these, checked
abbrev pub HasTakenJobs : {D : Type 0} → End Queued → End Queued → List (ℕ × D) → Type 0
HasTakenJobs before after checked =
    (taken : List Queued) × (after ≡ record before { jobs = before.jobs ++ taken })
    × (tickets_by checked ≡ map (λ job. job.ticket) taken)

-- the routes of jobs that were checked, in order
abbrev pub routes_by : {A D : Type 0} → List (ℕ × D) → List (Event A)
routes_by jobs = map (λ job. Route job.0) jobs
