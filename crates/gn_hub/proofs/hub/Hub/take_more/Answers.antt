use Rattle.std.proofs.Common.{◌≡◌, ◌+◌, ◌∙◌, sym, refl, false, []}
use Rattle.gn_hub.specs.Waking.{LeavesWaiting}
use Rattle.gn_hub.specs.declared.wakes.Wakes.TheVariants.{Nobody}
use Rattle.gn_hub.proofs.BatchLemmas.{grown, none_more, one_more, waiting_still}
use Rattle.gn_hub.proofs.KeptLemmas.{kept_on, none_kept}
use Rattle.gn_hub.proofs.WakingLemmas.{unchanged}
use Rattle.gn_hub.proofs.hub.Hub.take_more.Goals.{then-closes, else-closes}
use Rattle.gn_hub.proofs.hub.Hub.take_more.Goals as goal

pub loop-init : goal.loop-init
loop-init g c = (none_more 0 c.args.c c.args.me.now c.args.me.now refl, λ none. unchanged Nobody [] c.args.self.now c.args.self.now refl, none_kept _ _ _ _ refl refl)

pub loop-preserved : goal.loop-preserved
loop-preserved g c = (
  one_more c.loop.counter (c.loop.counter + 1) c.args.c c.args.me.now c.loop.me c.take_another.new.me refl c.loop.invariant.0 c.in-Ok.ensures.taken,
  elim c.if-closes.branch as (λ x. c.if-closes.closes ≡ false → LeavesWaiting Nobody [] c.args.self.now c.take_another.new.self) [
    | then-closes w ↦ λ none. absurd (cc)
    | else-closes w ↦ λ none. waiting_still Nobody c.args.self.now c.loop.self c.take_another.new.self (c.loop.invariant.1 w.if-closes.false) (c.in-Ok.ensures.quiet (sym w.closes-is ∙ none))
  ],
  kept_on _ _ _ _ _ _ c.loop.invariant.2 c.in-Ok.ensures.kept,
)

pub returns-after-loop-clause-taken : goal.returns-after-loop-clause-taken
returns-after-loop-clause-taken g c = grown c.loop.counter c.args.most c.args.c c.args.me.now c.loop.me c.loop.auto.counter-end c.loop.invariant.0

pub returns-after-loop-clause-quiet : goal.returns-after-loop-clause-quiet
returns-after-loop-clause-quiet g c = c.loop.invariant.1

pub returns-after-loop-clause-kept : goal.returns-after-loop-clause-kept
returns-after-loop-clause-kept g c = c.loop.invariant.2
