use Rattle.std.proofs.Common.{◌∙◌, ap, if◌then◌else◌, reverse, sym}
use Rattle.std.proofs.lemmas.List.{take_all}
use Rattle.gn_rules.specs.Flight.{admission, admission_of}
use Rattle.gn_rules.specs.History.{admitted_of, is_at}
use Rattle.gn_rules.proofs.PastLemmas.{past_more}
use Rattle.gn_search.proofs.admitted.admission_in.Goals as goal

pub loop-step-preserved : goal.loop-step-preserved
loop-step-preserved g c =
    c.admission_after-found.ensures
    ∙ ap (λ a. if is_at c.args.t (admitted_of c.step-item.result.reply) then admission_of c.step-item.result.event else a) c.loop-step.invariant
    ∙ sym (ap (λ past. admission past c.args.t) (past_more c.args.history.now c.loop-step.step-index c.step-item.result c.loop-step-test.true c.step-item.is))

pub returns : goal.returns
returns g c = c.loop-step.invariant ∙ ap (λ steps. admission (reverse steps) c.args.t) (take_all c.loop-step.step-index c.args.history.now c.loop-step-test.false)
