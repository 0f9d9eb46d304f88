-- What the house does with the jobs that the stage had left.
use Rattle.std.specs.Prelude.{◌≡◌, List, ◌++◌}
use Rattle.gn_hub.specs.ActorState.{ActorState}
use Rattle.gn_stage.specs.Jobs.{Queued}
use Rattle.gn_bodies.specs.Events.{events_of}
use Rattle.gn_bodies.specs.Jobs.{routes_of}

-- the actor routed each of these jobs, once and in order
abbrev pub HasRouted : {A : Type 0} → List Queued → ActorState A → ActorState A → Type 0
HasRouted jobs me us = events_of us ≡ events_of me ++ routes_of jobs
