use Rattle.std.proofs.Common.{◌≡◌, length, reverse, sym, subst}
use Rattle.std.specs.Prelude.{IfSome}
use Rattle.gn_rules.specs.Answer.{IsLegal}
use Rattle.gn_load.proofs.ServedLemmas.{kept_part}
use Rattle.gn_load.proofs.served.print_kept.Goals as goal

pub returns-in-Some-clause-kept : goal.returns-in-Some-clause-kept
returns-in-Some-clause-kept g c =
    let s = c.args.config.now in
    let legal = subst (λ history. IfSome history (λ steps. IsLegal s (reverse steps.items))) c.in-Some.is c.requires.legal in
    kept_part s c.args.is_kept c.args.stopped.now.fault c.deref.result.now (g.W.Sink.state c.args.sink.now).written (g.W.Sink.state c.print_history.new.sink).written
    c.print_history.result c.if-is_kept.true (subst (λ steps. IsLegal s (reverse steps)) (sym c.deref.ensures.value) legal)
    (λ full. subst (λ steps. length steps ≡ s.numbers.steps) (sym c.deref.ensures.value) (subst (λ history. IfSome history (λ steps. length steps.items ≡ s.numbers.steps)) c.in-Some.is (c.requires.full full)))
    c.print_history.ensures.ok c.print_history.ensures.err
