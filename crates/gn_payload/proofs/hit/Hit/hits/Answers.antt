use Rattle.std.proofs.Common.{◌∙◌, length, sym, ap}
use Rattle.gn_payload.specs.Fields.{HitFields}
use Rattle.gn_payload.proofs.ResultGrammar.{just_are}
use Rattle.gn_payload.proofs.hit.Hit.hits.Goals as goal

pub returns : goal.returns
returns c =
    sym (just_are c.self.inside.hits c.self.inside.results.now c.self.invariant).0 ∙ ap (λ (h : HitFields). length h.results) c.self.view_is
