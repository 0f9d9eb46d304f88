use Rattle.std.proofs.Common.{◌≡◌, Ok, subst}
use Rattle.gn_rules.specs.Answer.{answer}
use Rattle.gn_replay.specs.Playing.{Playing}
use Rattle.gn_replay.proofs.EventLemmas.{played_then}
use Rattle.gn_replay.proofs.playing.Play.happen.Goals as goal

pub make_step-requires : goal.make_step-requires
make_step-requires g c = subst (λ (v : Playing _). answer v.settings v.past c.args.event ≡ Ok c.in-Ok.reply) c.self.view_is c.in-Ok.ensures

pub returns-in-Ok-clause-outcome : goal.returns-in-Ok-clause-outcome
returns-in-Ok-clause-outcome g c = rw (← c.self.view_is, c.in-Ok.ensures) c.make_step.ensures.outcome

pub returns-in-Ok-clause-after : goal.returns-in-Ok-clause-after
returns-in-Ok-clause-after g c =
    played_then c.make_step.result c.args.self.now c.make_step.new.self c.args.event c.in-Ok.reply
    (subst (λ (v : Playing _). answer v.settings v.past c.args.event ≡ Ok c.in-Ok.reply) c.self.view_is c.in-Ok.ensures) c.make_step.ensures.after
