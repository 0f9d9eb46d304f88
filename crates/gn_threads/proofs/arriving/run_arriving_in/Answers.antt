use Rattle.std.proofs.Common.{◌≡◌, None, false, length, refl, subst, sym, true}
use Rattle.std.proofs.lemmas.Result.{IfErr-weaker}
use Rattle.gn_actors.specs.declared.who.Numbering.TheVariants.{Known}
use Rattle.gn_start.specs.Over.{HaveCome, views_of}
use Rattle.gn_threads.specs.Courses.{AreStepsOf}
use Rattle.gn_threads.specs.Left.{ends_in, may_in}
use Rattle.gn_threads.proofs.AnswerLemmas.{crewed}
use Rattle.gn_threads.proofs.CameLemmas.{arrived_came, holds_came, known_fault, made_of_came, many_came, opened_for}
use Rattle.gn_threads.proofs.CourseLemmas.{left_unopened, tallied_as}
use Rattle.gn_threads.proofs.LeftLemmas.{over_known}
use Rattle.gn_threads.proofs.arriving.run_arriving_in.Goals as goal

pub returns-clause-rest : goal.returns-clause-rest
returns-clause-rest g c = record {
  ran = c.run_bodies-left.result.1;
  steps = g.C.RouterCore.steps c.into_router.result;
  became = c.run_bodies-left.ensures.follows;
  left = c.end-rest.ensures;
  held = subst (λ steps. AreStepsOf c.conclude-answer.result steps) (sym c.into_router.ensures.steps) c.conclude-answer.ensures.steps;
}

pub returns-in_default-clause-rest : goal.returns-in_default-clause-rest
returns-in_default-clause-rest g c = left_unopened _ _ _ c.before-in_default.result c.before-in_default.ensures.1 c.give_up.ensures

pub returns-clause-tallied : goal.returns-clause-tallied
returns-clause-tallied g c = tallied_as c.conclude-answer.result c.conclude-answer.new.hub.steps _ c.conclude-answer.ensures.steps c.conclude-answer.ensures.tallied

pub new-begun-requires-clause-opened : goal.new-begun-requires-clause-opened
new-begun-requires-clause-opened g c =
    let roles = c.args.coming.roles.now in
    let given = c.in-Ok.ensures in
    opened_for roles (length roles) c.args.asked.now.workers c.in-Ok.opening.opened given.registry given.reception given.workers given.numbering refl c.requires.few.1 c.requires.few.0

pub conclude-answer-requires-clause-left : goal.conclude-answer-requires-clause-left
conclude-answer-requires-clause-left g c =
    let left = c.run_bodies-left.result.0 in
    let given = c.run_bodies-left.ensures in
    let is = subst (λ opened. opened.numbering ≡ Known (length c.args.coming.roles.now) c.args.asked.now.workers) (sym c.new-begun.ensures.0) c.in-Ok.ensures.numbering in
    over_known _ _ _ _ _ c.new-begun.result.opened.numbering left.over left.house is given.over given.house.is (given.house.own refl)

pub conclude-answer-requires-clause-well : goal.conclude-answer-requires-clause-well
conclude-answer-requires-clause-well g c = λ none.
    let left = c.run_bodies-left.result.0 in
    let given = c.run_bodies-left.ensures in
    let views = views_of g.V.Reader.LinkReader.state g.V.Writer.LinkWriter.state g.V.Reader.LinkReader.gives g.V.Reader.LinkReader.made_of g.V.Writer.LinkWriter.made_of in
    let came = subst (λ order. HaveCome views g.V.Arrivals.foreknown true (may_in order.roles.now (g.V.Arrivals.coming order.arrivals)) (ends_in order.roles.now) left.over) c.new-begun.ensures.1 given.came in
    let well = given.fault.stopped none in
    let whole = given.over.whole well in
    (well, many_came views g.V.Arrivals.foreknown c.args.coming.roles.now (g.V.Arrivals.coming c.args.coming.arrivals) left.over came whole.0 well whole.1.0 whole.1.1)

pub returns-clause-answer : goal.returns-clause-answer
returns-clause-answer g c =
    let left = c.run_bodies-left.result.0 in
    let given = c.run_bodies-left.ensures in
    let answer = c.conclude-answer.result in
    let told = c.conclude-answer.ensures in
    let roles = c.args.coming.roles.now in
    let coming = g.V.Arrivals.coming c.args.coming.arrivals in
    let workers = c.args.asked.now.workers in
    let views = views_of g.V.Reader.LinkReader.state g.V.Writer.LinkWriter.state g.V.Reader.LinkReader.gives g.V.Reader.LinkReader.made_of g.V.Writer.LinkWriter.made_of in
    let is = subst (λ opened. opened.numbering ≡ Known (length roles) workers) (sym c.new-begun.ensures.0) c.in-Ok.ensures.numbering in
    let fault = known_fault g.V.Arrivals.has_peers c.new-begun.result.opened.numbering left.over (length roles) workers left.fault is given.fault in
    let came = subst (λ order. HaveCome views g.V.Arrivals.foreknown true (may_in order.roles.now (g.V.Arrivals.coming order.arrivals)) (ends_in order.roles.now) left.over) c.new-begun.ensures.1 given.came in
    let lost : left.over.fault ≡ None → left.over.is_lost ≡ false = λ well. (given.over.whole well).0 in
    record {
      run = crewed _ _ _ _ _ _ answer c.requires.few.1 (λ never. never) (IfErr-weaker answer _ _ (λ halted may. may g.V.Arrivals.has_peers fault) told.fault)
          (holds_came g.B.Limited.turns g.B.Limited.batch views g.V.Arrivals.foreknown c.args.asked.now.config.now roles coming workers left.over came left.fault given.fault.stopped lost answer told.links told.holds)
          (made_of_came g.B.Limited.turns g.B.Limited.batch views g.V.Arrivals.foreknown c.args.asked.now.config.now roles coming workers left.over came left.fault given.fault.stopped lost answer told.links told.ended);
      kept = told.kept;
      full = told.full;
    }

pub returns-clause-arrived : goal.returns-clause-arrived
returns-clause-arrived g c =
    let left = c.run_bodies-left.result.0 in
    let given = c.run_bodies-left.ensures in
    let roles = c.args.coming.roles.now in
    let views = views_of g.V.Reader.LinkReader.state g.V.Writer.LinkWriter.state g.V.Reader.LinkReader.gives g.V.Reader.LinkReader.made_of g.V.Writer.LinkWriter.made_of in
    let came = subst (λ order. HaveCome views g.V.Arrivals.foreknown true (may_in order.roles.now (g.V.Arrivals.coming order.arrivals)) (ends_in order.roles.now) left.over) c.new-begun.ensures.1 given.came in
    arrived_came g.B.Limited.turns g.B.Limited.batch views g.V.Arrivals.foreknown c.args.asked.now.config.now roles (g.V.Arrivals.coming c.args.coming.arrivals) c.args.asked.now.workers left.over came left.fault given.fault.stopped (λ well. (given.over.whole well).0)
    c.conclude-answer.result c.conclude-answer.ensures.ended
