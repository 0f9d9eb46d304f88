use Rattle.std.proofs.Common.{◌∙◌, ◌==◌, arith, ap, length, reverse, sym, take}
use Rattle.std.proofs.Math.Seq.{take-length}
use Rattle.std.proofs.lemmas.List.{length-take-le, take_all}
use Rattle.gn_rules.specs.Flight.{flying}
use Rattle.gn_report.proofs.survey.is_settled.Goals as goal

pub slice_bounds-routes_in-end : goal.slice_bounds-routes_in-end
slice_bounds-routes_in-end g c = sym (length-take-le c.args.k c.args.steps.now (omega arith))

pub returns-then-place-steps : goal.returns-then-place-steps
returns-then-place-steps g c =
    c.routes_in.ensures.all ∙ ap (λ past. length (flying (reverse past)) == 0) (take-length (take c.args.k c.args.steps.now))

pub returns-else-place-steps : goal.returns-else-place-steps
returns-else-place-steps g c =
    c.routes_in-else-place-steps.ensures.all
    ∙ ap (λ past. length (flying (reverse past)) == 0) (take-length c.args.steps.now ∙ sym (take_all c.args.k c.args.steps.now c.if-place-steps.false))
