use Rattle.std.proofs.Common.{◌≡◌, ◌∙◌, reverse, take, length, ap, arith}
use Rattle.std.proofs.lemmas.List.{take_all}
use Rattle.gn_rules.specs.Output.{out}
use Rattle.gn_search.proofs.CountLemmas.{walked}
use Rattle.gn_search.proofs.LegalLemmas.{out_within, out_more}
use Rattle.gn_search.proofs.output.out_count.Goals as goal

pub returns-clause-bound : goal.returns-clause-bound
returns-clause-bound g c =
    let all : length (out (reverse (take c.loop-step.step-index c.args.history.now)) c.args.c) ≡ length (out (reverse c.args.history.now) c.args.c) =
    ap (λ steps. length (out (reverse steps) c.args.c)) (take_all c.loop-step.step-index c.args.history.now c.loop-step-test.false) in
    omega (arith, out_within c.args.config.now (reverse c.args.history.now) c.args.c c.requires, all, c.loop-step.invariant)

pub returns-clause-value : goal.returns-clause-value
returns-clause-value g c = c.loop-step.invariant ∙ ap (λ past. length (out past c.args.c)) (walked c.args.history.now c.loop-step.step-index c.loop-step-test.false)

pub loop-step-preserved : goal.loop-step-preserved
loop-step-preserved g c =
    out_more c.args.config.now c.args.history.now c.loop-step.step-index c.args.c c.loop-step.count c.out_after-count.result c.step-item.result c.requires c.loop-step-test.true c.step-item.is c.loop-step.invariant c.out_after-count.ensures
