use Rattle.std.proofs.Common.{map, subst}
use Rattle.gn_report.specs.Accounts.{report_of}
use Rattle.gn_threads.specs.Courses.{steps_left}
use Rattle.gn_threads.specs.Answers.{IsKeptAnswer, halted_views}
use Rattle.gn_start.specs.Faults.{IsWholeFault}
use Rattle.gn_threads.specs.Headline.{AreMadeOf, Holds}
use Rattle.gn_threads.proofs.AnswerLemmas.{fault_alone, report_alone, told_report, told_stopped}
use Rattle.gn_threads.proofs.AnsweredLemmas.{own_held, steps_had, told_has}
use Rattle.gn_threads.proofs.ToldLemmas.{bytes_told}
use Rattle.gn_threads.proofs.runs.run.Goals as goal

pub told_by-requires-clause-steps : goal.told_by-requires-clause-steps
told_by-requires-clause-steps g c = steps_had c.run_by-answer.result.0 _ (steps_left g.C.RouterCore.steps) c.run_by-answer.result.1 c.run_by-answer.ensures.rest

pub told_by-requires-clause-own : goal.told_by-requires-clause-own
told_by-requires-clause-own g c = own_held c.run_by-answer.result.0 _ _ _ _ _ _ c.run_by-answer.ensures.answer.run.holds

pub returns-in-Ok-told_by-clause-answer : goal.returns-in-Ok-told_by-clause-answer
returns-in-Ok-told_by-clause-answer g c =
    let reads = g.K.Reader.LinkReader.state in
    let writes = g.K.Writer.LinkWriter.state in
    let roles = map g.K.Link.role_of c.args.links.items in
    let origins = map g.K.Link.origin_of c.args.links.items in
    let reader_of = g.K.Reader.LinkReader.made_of in
    let writer_of = g.K.Writer.LinkWriter.made_of in
    let faults = IsWholeFault (map g.K.Link.may_not_split c.args.links.items) c.args.workers in
    let answer = c.run_by-answer.result.0 in
    let one = subst (λ batch. IsKeptAnswer c.args.config.now c.args.workers faults (Holds batch reads writes c.args.config.now roles c.args.workers) (AreMadeOf reader_of writer_of origins) report_of halted_views answer) c.one.ensures c.run_by-answer.ensures.answer in
    report_alone c.args.workers faults reads writes 1 c.args.config.now roles reader_of writer_of origins c.in-Ok-told_by.report (told_report c.args.workers faults reads writes 1 c.args.config.now roles reader_of writer_of origins answer c.in-Ok-told_by.report one c.in-Ok-told_by.ensures.told)

pub returns-in-Ok-told_by-clause-bytes : goal.returns-in-Ok-told_by-clause-bytes
returns-in-Ok-told_by-clause-bytes g c = told_has c.run_by-answer.result.0 c.in-Ok-told_by.report _ c.in-Ok-told_by.ensures.told c.run_by-answer.ensures.bytes (λ account tells own. bytes_told account c.in-Ok-told_by.report tells g.K.Reader.LinkReader.state (map (λ link. g.K.Reader.LinkReader.gives (g.K.Link.origin_of link)) c.args.links.items) own)

pub returns-in-Err-clause-answer : goal.returns-in-Err-clause-answer
returns-in-Err-clause-answer g c =
    let reads = g.K.Reader.LinkReader.state in
    let writes = g.K.Writer.LinkWriter.state in
    let roles = map g.K.Link.role_of c.args.links.items in
    let origins = map g.K.Link.origin_of c.args.links.items in
    let reader_of = g.K.Reader.LinkReader.made_of in
    let writer_of = g.K.Writer.LinkWriter.made_of in
    let faults = IsWholeFault (map g.K.Link.may_not_split c.args.links.items) c.args.workers in
    let answer = c.run_by-answer.result.0 in
    let one = subst (λ batch. IsKeptAnswer c.args.config.now c.args.workers faults (Holds batch reads writes c.args.config.now roles c.args.workers) (AreMadeOf reader_of writer_of origins) report_of halted_views answer) c.one.ensures c.run_by-answer.ensures.answer in
    fault_alone c.args.workers faults reads writes 1 c.args.config.now roles reader_of writer_of origins c.in-Err.stopped (told_stopped c.args.workers faults reads writes 1 c.args.config.now roles reader_of writer_of origins answer c.in-Err.stopped one tt c.in-Err.ensures.stopped)
