use Rattle.std.proofs.Common.{◌≡◌, ◌++◌, ◌∷◌, ◌∙◌, [], ap}
use Rattle.gn_hub.specs.ActorState.{with_receipt}
use Rattle.gn_hub.proofs.KeptLemmas.{one_kept, when_ok}
use Rattle.gn_hub.proofs.held.Held.call_one.Goals as goal

pub returns-clause-kept : goal.returns-clause-kept
returns-clause-kept g c =
    let r = c.in_ok-receipt.receipt in
    one_kept _ _ r _ _ (c.keep.ensures ∙ ap (λ w. w ++ r ∷ []) c.reserve.ensures.items) (when_ok c.call_answered-answer.result.answer r (λ x. c.call_answered-answer.new.me ≡ with_receipt c.args.me.now x) c.in_ok-receipt.was c.call_answered-answer.ensures.got)
