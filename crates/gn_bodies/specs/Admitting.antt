-- What a reader admits, and what it does with the jobs.
use Rattle.std.specs.Prelude.{◌≡◌, ℕ, Bool, true, false, List, [], ◌∷◌, ◌++◌, Option, Some, None}
use Rattle.gn_rules.specs.Fits.{is_at_threshold, refuses}
use Rattle.gn_rules.specs.declared.event.Event.TheVariants.{Admit, Connect}
use Rattle.gn_rules.specs.declared.receipt.Receipt.{Receipt}
use Rattle.gn_rules.specs.declared.refusal.Refusal.{Refusal}
use Rattle.gn_rules.specs.declared.refusal.Refusal.TheVariants as refusal
use Rattle.gn_rules.specs.declared.reply.Reply.{Reply}
use Rattle.gn_rules.specs.declared.reply.Reply.TheVariants.{Admitted, TooMany}
use Rattle.gn_stage.specs.Ends.{End}
use Rattle.gn_stage.specs.Jobs.{Queued}
use Rattle.gn_wire.specs.Packet.{Packet}
use Rattle.gn_hub.specs.ActorState.{ActorState, receipt, with_receipt}
use Rattle.gn_bodies.specs.Events.{connection_of, events_of, link_events}
use Rattle.gn_bodies.specs.Jobs.{job_by, jobs_left}
use Rattle.std.specs.List.{flat_map}
use Rattle.gn_bodies.specs.Stops.{fault_of}
use Rattle.gn_bodies.specs.declared.piece.Halt.{Halt}
use Rattle.gn_bodies.specs.declared.piece.Halt.TheVariants.{NotLive, Stop}

-- a reader's actor, its intake, and whether a job that was handed back was refused its route
pub record Admitting (A : Type 0) : Type 0 where
  pub actor : ActorState A
  pub intake : End Queued
  pub is_refused : Bool

-- its actor and its intake are those of before
abbrev pub HasSameNumbers : {A : Type 0} → Admitting A → Admitting A → Type 0
HasSameNumbers before after = (after.actor.number ≡ before.actor.number) × (after.intake.number ≡ before.intake.number)

-- its connection, where it has one, is that of before
abbrev pub KeepsConnection : {A : Type 0} → ActorState A → ActorState A → Type 0
KeepsConnection before after = (c : ℕ) → connection_of before ≡ Some c → connection_of after ≡ Some c

-- a reader after a step that is no event of its link: its actor and its intake are those of before, its connection, where it had one, is
-- the same, and it made no event but routes
pub record KeepsLink {A : Type 0} (before after : Admitting A) : Type 0 where
  pub numbers : HasSameNumbers before after
  pub connection : KeepsConnection before.actor after.actor
  pub events : link_events after.actor ≡ link_events before.actor

-- with no route refused, its intake put the jobs that its receipts leave, after those of before
abbrev pub IsSettled : {A : Type 0} → List Queued → Admitting A → Type 0
IsSettled before me = me.is_refused ≡ false → me.intake.jobs ≡ before ++ jobs_left me.actor.receipts

-- what was settled stays settled
abbrev pub StaysSettled : {A : Type 0} → Admitting A → Admitting A → Type 0
StaysSettled before after = (jobs : List Queued) → IsSettled jobs before → IsSettled jobs after

-- a reader after a step of its body: its actor and its intake are those of before, its connection, where it had one, is the same,
-- and what was settled stays settled
pub record GoesOn {A : Type 0} (before after : Admitting A) : Type 0 where
  pub numbers : HasSameNumbers before after
  pub connection : KeepsConnection before.actor after.actor
  pub settled : StaysSettled before after

-- all that an actor did is that it connected, as this or not
pub record HasOnlyConnected {A : Type 0} (made : Option ℕ) (me : ActorState A) : Type 0 where
  pub connection : connection_of me ≡ made
  pub events : link_events me ≡ Connect ∷ []
  pub alone : events_of me ≡ link_events me
  pub none_left : jobs_left me.receipts ≡ []
  pub turned : made ≡ None → (index : ℕ) × (me.receipts ≡ receipt index Connect TooMany ∷ [])

-- an actor got the receipt of an admission: a job with the ticket, or none at a threshold
abbrev pub HasAdmitted : {A : Type 0} → ℕ → Packet → Option Queued → ActorState A → ActorState A → Type 0
HasAdmitted {A} c d None me us =
    (index : ℕ) × (reply : Reply A) × (us ≡ with_receipt me (receipt index (Admit c d) reply))
    × (is_at_threshold reply ≡ true)
HasAdmitted c d (Some job) me us =
    (index : ℕ) × (job.descriptor ≡ d) × (us ≡ with_receipt me (receipt index (Admit c d) (Admitted job.ticket)))

-- why no more are admitted after this refusal: the connection was found closed, or the body stops
abbrev pub halt_of : Refusal → Halt
halt_of refusal.NotLive = NotLive
halt_of refusal = Stop (fault_of refusal)

-- an admission was refused as an Admit may be, so that no more are admitted, and the actor is as it was
abbrev pub HasHalted : {A : Type 0} → ℕ → Packet → Halt → ActorState A → ActorState A → Type 0
HasHalted {A} c d why me us =
    (refusal : Refusal) × (refuses {A = A} (Admit c d) refusal ≡ true) × (why ≡ halt_of refusal) × (us ≡ me)

-- its last receipt admitted this job, which is to be put or routed, and all before is settled
pub record IsOwed {A : Type 0} (before : List Queued) (job : Queued) (me : Admitting A) : Type 0 where
  pub index : ℕ
  pub connection : ℕ
  pub earlier : List (Receipt A)
  pub last : me.actor.receipts ≡ earlier ++ receipt index (Admit connection job.descriptor) (Admitted job.ticket) ∷ []
  pub settled : me.is_refused ≡ false → me.intake.jobs ≡ before ++ jobs_left earlier

-- the jobs that receipts admitted, in order
abbrev pub jobs_by : {A : Type 0} → List (Receipt A) → List Queued
jobs_by receipts = flat_map (λ r. job_by r.event r.reply) receipts

-- these jobs were admitted and are to be put: with no route refused, the jobs that its intake put and then these are those that its
-- receipts leave, after those of before
abbrev pub IsOwing : {A : Type 0} → List Queued → List Queued → Admitting A → Type 0
IsOwing before jobs me = me.is_refused ≡ false → me.intake.jobs ++ jobs ≡ before ++ jobs_left me.actor.receipts
