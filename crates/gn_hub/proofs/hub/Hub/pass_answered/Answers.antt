use Rattle.std.proofs.Common.{length}
use Rattle.gn_rules.specs.declared.event.Event.TheVariants.{Route}
use Rattle.gn_rules.specs.Answer.{checked_answer}
use Rattle.gn_hub.specs.HubState.{past_of}
use Rattle.gn_hub.proofs.StepLemmas.{receipt_fits, refusal_fits}
use Rattle.gn_hub.proofs.WakingLemmas.{call_leaves}
use Rattle.gn_hub.proofs.hub.Hub.pass_answered.Goals as goal

pub returns-in-Ok-clause-quiet : goal.returns-in-Ok-clause-quiet
returns-in-Ok-clause-quiet g c =
    let h = c.args.self.now in
    let fits = c.checked_answers_fit.ensures h.settings (past_of h) c.args.ticket c.args.checked.now in
    call_leaves (checked_answer h.settings (past_of h) c.args.ticket c.args.checked.now) (Route c.args.ticket) h c.pass.new.self c.args.me.now c.pass.new.me c.wakes_at_least.result fits c.in-Ok.ensures.made c.wakes_at_least.ensures

pub returns-in-Ok-clause-answer : goal.returns-in-Ok-clause-answer
returns-in-Ok-clause-answer g c =
    let h = c.args.self.now in
    let fits = c.checked_answers_fit.ensures h.settings (past_of h) c.args.ticket c.args.checked.now in
    receipt_fits (checked_answer h.settings (past_of h) c.args.ticket c.args.checked.now) (Route c.args.ticket) h c.pass.new.self c.args.me.now c.pass.new.me fits c.in-Ok.ensures.made

pub returns-in-Ok-clause-told : goal.returns-in-Ok-clause-told
returns-in-Ok-clause-told g c =
    let (reply, answered, made, got) = c.in-Ok.ensures.made in
    (length c.args.self.now.steps, reply, got, c.in-Ok.ensures.told reply answered)

pub returns-in-Err-clause-answer : goal.returns-in-Err-clause-answer
returns-in-Err-clause-answer g c =
    let h = c.args.self.now in
    let fits = c.checked_answers_fit.ensures h.settings (past_of h) c.args.ticket c.args.checked.now in
    rw c.refused.ensures.answer (refusal_fits (checked_answer h.settings (past_of h) c.args.ticket c.args.checked.now) (Route c.args.ticket) c.in-Err.refusal fits c.in-Err.ensures.made.0, c.in-Err.ensures.made.2)

pub returns-in-Err-clause-told : goal.returns-in-Err-clause-told
returns-in-Err-clause-told g c = rw c.refused.ensures.answer tt

pub returns-in-Err-clause-quiet : goal.returns-in-Err-clause-quiet
returns-in-Err-clause-quiet g c = rw c.refused.ensures.answer c.in-Err.ensures.made.1
