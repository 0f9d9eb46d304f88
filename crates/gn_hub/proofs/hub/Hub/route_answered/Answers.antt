use Rattle.gn_rules.specs.declared.event.Event.TheVariants.{Route}
use Rattle.gn_rules.specs.Answer.{checked_answer}
use Rattle.gn_hub.specs.HubState.{past_of}
use Rattle.gn_hub.proofs.StepLemmas.{receipt_fits, refusal_fits, this_fits}
use Rattle.gn_hub.proofs.WakingLemmas.{call_leaves}
use Rattle.gn_hub.proofs.hub.Hub.route_answered.Goals as goal

pub returns-in-Ok-clause-quiet : goal.returns-in-Ok-clause-quiet
returns-in-Ok-clause-quiet g c =
    let h = c.args.self.now in
    let fits = c.checked_answers_fit.ensures h.settings (past_of h) c.args.ticket c.args.checked.now in
    call_leaves (checked_answer h.settings (past_of h) c.args.ticket c.args.checked.now) (Route c.args.ticket) h c.route.new.self c.args.me.now c.route.new.me c.wakes_at_least.result fits c.in-Ok.ensures.made c.wakes_at_least.ensures

pub returns-in-Ok-clause-answer : goal.returns-in-Ok-clause-answer
returns-in-Ok-clause-answer g c =
    let h = c.args.self.now in
    let fits = c.checked_answers_fit.ensures h.settings (past_of h) c.args.ticket c.args.checked.now in
    receipt_fits (checked_answer h.settings (past_of h) c.args.ticket c.args.checked.now) (Route c.args.ticket) h c.route.new.self c.args.me.now c.route.new.me fits c.in-Ok.ensures.made

pub returns-in-Err-clause-answer : goal.returns-in-Err-clause-answer
returns-in-Err-clause-answer g c =
    let h = c.args.self.now in
    let fits = c.checked_answers_fit.ensures h.settings (past_of h) c.args.ticket c.args.checked.now in
    rw c.refused.ensures.answer (refusal_fits (checked_answer h.settings (past_of h) c.args.ticket c.args.checked.now) (Route c.args.ticket) c.in-Err.refusal fits c.in-Err.ensures.made.0, c.in-Err.ensures.made.2)

pub returns-in-Err-clause-quiet : goal.returns-in-Err-clause-quiet
returns-in-Err-clause-quiet g c = rw c.refused.ensures.answer c.in-Err.ensures.made.1

pub returns-in-Ok-clause-receipt : goal.returns-in-Ok-clause-receipt
returns-in-Ok-clause-receipt g c =
    let h = c.args.self.now in
    let fits = c.checked_answers_fit.ensures h.settings (past_of h) c.args.ticket c.args.checked.now in
    this_fits (checked_answer h.settings (past_of h) c.args.ticket c.args.checked.now) (Route c.args.ticket) c.in-Ok.receipt c.args.me.now c.route.new.me fits c.in-Ok.ensures.receipt

pub returns-in-Err-clause-receipt : goal.returns-in-Err-clause-receipt
returns-in-Err-clause-receipt g c = rw c.refused.ensures.answer tt

pub returns-in-Ok-clause-got : goal.returns-in-Ok-clause-got
returns-in-Ok-clause-got g c = c.in-Ok.ensures.receipt.2

pub returns-in-Err-clause-got : goal.returns-in-Err-clause-got
returns-in-Err-clause-got g c = rw c.refused.ensures.answer tt
