use Rattle.std.proofs.Common.{[], subst}
use Rattle.gn_payload.specs.Fields.{HitFields}
use Rattle.gn_payload.specs.Grammar.{AreResults}
use Rattle.gn_payload.proofs.ResultGrammar.{just_are}
use Rattle.gn_payload.proofs.hit.Hit.result_bytes.Goals as goal

pub returns : goal.returns
returns c =
    let bytes = c.self.inside.results.now in
    let P : HitFields → Type 0 = λ h. AreResults bytes h.results [] in
    subst P c.self.view_is (just_are c.self.inside.hits bytes c.self.invariant).1
