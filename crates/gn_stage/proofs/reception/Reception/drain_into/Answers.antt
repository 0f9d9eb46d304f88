use Rattle.std.proofs.Common.{subst, sym, ap}
use Rattle.gn_stage.specs.Opened.{knows}
use Rattle.gn_stage.specs.Reception.{ReceptionState}
use Rattle.gn_stage.specs.Settled.{AreWhole}
use Rattle.gn_stage.proofs.Settling.{gathers, homes, count_at, settles, settled_at}
use Rattle.gn_stage.proofs.reception.Reception.drain_into.Goals as goal

pub drain_queue-requires-clause-home : goal.drain_queue-requires-clause-home
drain_queue-requires-clause-home g c =
    let whole = subst (λ (s : ReceptionState _). AreWhole s.made s.came c.args.outlets.items) (sym c.self.view_is) c.requires.whole in
    let desk = gathers _ _ _ _ _ _ _ c.self.invariant.4 c.gather_outlets.ensures.known in
    homes _ _ (knows c.gather_outlets.new.pass) _ _ desk.0 whole.ins whole.outs

pub returns-clause-settled : goal.returns-clause-settled
returns-clause-settled g c =
    let whole = subst (λ (s : ReceptionState _). AreWhole s.made s.came c.args.outlets.items) (sym c.self.view_is) c.requires.whole in
    let desk = gathers _ _ _ _ _ _ _ c.self.invariant.4 c.gather_outlets.ensures.known in
    let taken = count_at _ _ _ c.as_slice.ensures.value c.count_of-taken.ensures in
    let settled = settles _ _ _ _ (knows c.gather_outlets.new.pass) (knows c.drain_queue.new.pass) _ _ _ desk.0 c.drain_queue.ensures.drained c.drain_queue.ensures.empty whole.ins whole.outs c.self.invariant.6 taken in
    settled_at _ _ _ _ _ _ (ap (λ (s : ReceptionState _). s.came) c.self.view_is) settled
