use Rattle.std.proofs.Common.{length, subst, take}
use Rattle.std.proofs.lemmas.Result.{IfOk-weaker}
use Rattle.gn_report.specs.Accounts.{report_of}
use Rattle.gn_threads.specs.Courses.{steps_left}
use Rattle.gn_threads.specs.Answers.{IsKeptAnswer, halted_views}
use Rattle.gn_start.specs.Faults.{IsArrivingFault}
use Rattle.gn_threads.specs.Headline.{AreMadeOf, Holds}
use Rattle.gn_threads.proofs.AnswerLemmas.{arrived_told, told_answer}
use Rattle.gn_threads.proofs.AnsweredLemmas.{own_held, steps_had, told_has}
use Rattle.gn_threads.proofs.arriving.run_arriving_kept.Goals as goal

pub told_by-requires-clause-steps : goal.told_by-requires-clause-steps
told_by-requires-clause-steps g c = steps_had c.run_arriving_by-answer.result.0 _ (steps_left g.C.RouterCore.steps) c.run_arriving_by-answer.result.1 c.run_arriving_by-answer.ensures.rest

pub told_by-requires-clause-own : goal.told_by-requires-clause-own
told_by-requires-clause-own g c = own_held c.run_arriving_by-answer.result.0 _ _ _ _ _ _ c.run_arriving_by-answer.ensures.answer.run.holds

pub returns-clause-answer : goal.returns-clause-answer
returns-clause-answer g c =
    let read_of = g.V.Reader.LinkReader.made_of in
    let written_of = g.V.Writer.LinkWriter.made_of in
    let roles = c.args.roles.now in
    let coming = take (length roles) (g.V.Arrivals.coming c.args.arrivals) in
    let faults = IsArrivingFault g.V.Arrivals.has_peers (length roles) c.args.workers in
    let answer = c.run_arriving_by-answer.result.0 in
    let one = subst (λ batch. IsKeptAnswer c.args.config.now c.args.workers faults (Holds batch g.V.Reader.LinkReader.state g.V.Writer.LinkWriter.state c.args.config.now roles c.args.workers) (AreMadeOf (λ reader. g.V.Arrivals.foreknown (read_of reader)) (λ writer. g.V.Arrivals.foreknown (written_of writer)) coming) report_of halted_views answer) c.one.ensures c.run_arriving_by-answer.ensures.answer in
    told_answer c.args.workers faults _ _ 1 c.args.config.now roles _ _ coming answer c.told_by.result one tt c.told_by.ensures.told c.told_by.ensures.stopped

pub returns-clause-arrived : goal.returns-clause-arrived
returns-clause-arrived g c =
    IfOk-weaker c.told_by.result _ _ (λ report told. told_has c.run_arriving_by-answer.result.0 report _ told c.run_arriving_by-answer.ensures.arrived (λ account tells arrived. arrived_told account report tells _ _ _ _ arrived)) c.told_by.ensures.told
