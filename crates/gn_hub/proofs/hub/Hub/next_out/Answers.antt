use Rattle.gn_hub.specs.Calls.{due}
use Rattle.gn_hub.proofs.StepLemmas.{next_is}
use Rattle.gn_hub.proofs.hub.Hub.next_out.Goals as goal

pub returns-clause-made : goal.returns-clause-made
returns-clause-made g c =
    next_is (due c.args.self.now c.args.c) c.in_ok-answer.answer c.next_of.result c.args.c c.args.self.now c.outgoing.new.self c.args.me.now c.outgoing.new.me c.next_of.ensures c.in_ok-answer.ensures.made
