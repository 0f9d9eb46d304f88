use Rattle.std.proofs.Common.{◌++◌, ◌∷◌, ◌∙◌, [], ap}
use Rattle.gn_hub.proofs.KeptLemmas.{one_kept}
use Rattle.gn_hub.proofs.hub.Hub.call_kept.Goals as goal

pub returns-clause-kept : goal.returns-clause-kept
returns-clause-kept g c =
    let r = c.in_ok-receipt.receipt in
    one_kept _ _ r _ _ (c.push_reserved.ensures.items ∙ ap (λ w. w ++ r ∷ []) c.reserve.ensures.items) c.in_ok-receipt.ensures.receipt.2
