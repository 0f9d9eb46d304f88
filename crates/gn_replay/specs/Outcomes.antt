-- What the answer to an event says of a link.
use Rattle.std.specs.Prelude.{◌≡◌, Result}
use Rattle.gn_rules.specs.declared.refusal.Refusal.{Refusal}
use Rattle.gn_rules.specs.declared.reply.Reply.{Reply}
use Rattle.gn_replay.specs.declared.outcome.Outcome.{Outcome}
use Rattle.gn_replay.specs.Events.{connection_of, is_not_live}

-- the connection that an answer made, and whether it refuses since the connection isn't live
pub record IsOutcome {A : Type 0} (o : Outcome) (answer : Result (Reply A) Refusal) : Type 0 where
  pub connection : o.connection ≡ connection_of answer
  pub not_live : o.is_not_live ≡ is_not_live answer
