use Rattle.std.proofs.Common.{◌∙◌, ap, sym, subst}
use Rattle.gn_stage.specs.Rule.{Known, AreHome}
use Rattle.gn_stage.proofs.Steps.{drains, learns}
use Rattle.gn_stage.proofs.settle.drain_queue.Goals as goal

pub try_recv_as-requires-clause-rule : goal.try_recv_as-requires-clause-rule
try_recv_as-requires-clause-rule g c =
    let e = c.loop.invariant.known in
    let role = ap (λ (v : Known _). v.role) e ∙ c.requires.desk.0 in
    let ins = subst AreHome (sym (ap (λ (v : Known _). v.ins) e)) c.requires.home.0 in
    let outs = subst AreHome (sym (ap (λ (v : Known _). v.outs) e)) c.requires.home.1 in
    (drains _ _ role ins outs, learns _ _ role ins outs)
