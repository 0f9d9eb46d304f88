use Rattle.gn_rules.specs.declared.event.Event.TheVariants.{Connect}
use Rattle.gn_hub.specs.Calls.{answer_now}
use Rattle.gn_hub.specs.HubState.{past_of}
use Rattle.gn_hub.proofs.StepLemmas.{this_fits}
use Rattle.gn_hub.proofs.WakingLemmas.{connect_leaves}
use Rattle.gn_hub.proofs.hub.Hub.connect_answered.Goals as goal

pub returns-in-Ok-clause-quiet : goal.returns-in-Ok-clause-quiet
returns-in-Ok-clause-quiet g c = connect_leaves c.args.link c.args.self.now c.connect.new.self c.args.me.now c.connect.new.me c.wakes_at_least.result c.answers_fit.ensures c.in-Ok.ensures.made c.wakes_at_least.ensures

pub returns-in-Ok-clause-receipt : goal.returns-in-Ok-clause-receipt
returns-in-Ok-clause-receipt g c =
    let h = c.args.self.now in
    this_fits (answer_now h Connect) Connect c.in-Ok.receipt c.args.me.now c.connect.new.me (c.answers_fit.ensures h.settings (past_of h) Connect) c.in-Ok.ensures.receipt

pub returns-in-Err-clause-receipt : goal.returns-in-Err-clause-receipt
returns-in-Err-clause-receipt g c = rw c.refused.ensures.answer tt
