use Rattle.std.proofs.Common.{◌≡◌, ◌∷◌, ◌-◌, ◌∙◌, sym, arith, rules}
use Rattle.gn_payload.specs.Reading.{results_in}
use Rattle.gn_payload.specs.Views.{result_fields}
use Rattle.gn_payload.proofs.ResultLemmas.{just_more}
use Rattle.gn_payload.proofs.hit_result.ResultsIterator.next.Goals as goal

pub invariant_of-self : goal.invariant_of-self
invariant_of-self c =
    (just_more c.self.inside.left (c.self.inside.left - 1) c.self.inside.bytes.now (result_fields c.in_ok-first.first) c.in_ok-first.rest.now (omega arith) c.self.invariant (sym c.in_ok-first.ensures)).0

pub returns-clause-steps : goal.returns-clause-steps
returns-clause-steps c =
    sym c.self.view_is ∙ (just_more c.self.inside.left (c.self.inside.left - 1) c.self.inside.bytes.now (result_fields c.in_ok-first.first) c.in_ok-first.rest.now (omega arith) c.self.invariant (sym c.in_ok-first.ensures)).1

pub returns-clause-goes : goal.returns-clause-goes
returns-clause-goes c =
    let e : c.args.self.now ≡ result_fields c.in_ok-first.first ∷ results_in (c.self.inside.left - 1) c.in_ok-first.rest.now = sym c.self.view_is ∙ (just_more c.self.inside.left (c.self.inside.left - 1) c.self.inside.bytes.now (result_fields c.in_ok-first.first) c.in_ok-first.rest.now (omega arith) c.self.invariant (sym c.in_ok-first.ensures)).1 in
    rw e (search rules)
