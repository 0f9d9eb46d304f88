use Rattle.std.proofs.Common.{◌∙◌, subst}
use mathlib.Core.List.{IsPrefix}
use Rattle.gn_hub.proofs.IdleLemmas.{idle_then}
use Rattle.gn_hub.proofs.hub.Hub.recall_idle.Goals as goal

pub returns-clause-idle : goal.returns-clause-idle
returns-clause-idle g c =
    let seen = c.into_seen.result.items in
    idle_then c.args.idle seen _ c.into_seen.ensures.at c.into_seen.ensures.idle (subst (λ w. IsPrefix seen w) (c.recall.ensures.same ∙ c.self.invariant) c.recall.ensures.began)
