use Rattle.std.proofs.Common.{subst, sym}
use Rattle.std.specs.Prelude.{IfErr, IfOk}
use Rattle.gn_report.specs.Accounts.{report_of}
use Rattle.gn_report.specs.Actors.{AreOwn}
use Rattle.gn_threads.specs.Courses.{AreStepsOf, steps_left}
use Rattle.gn_threads.specs.Told.{IsStoppedOf, IsToldOf}
use Rattle.gn_threads.proofs.reporting.told_by.Goals as goal

pub tell-requires-clause-steps : goal.tell-requires-clause-steps
tell-requires-clause-steps g c = subst (λ answer. AreStepsOf answer (steps_left g.C.RouterCore.steps c.args.core)) c.in-Ok.is c.requires.steps

pub tell-requires-clause-own : goal.tell-requires-clause-own
tell-requires-clause-own g c = subst (λ answer. IfOk answer (λ account. AreOwn (report_of account))) c.in-Ok.is c.requires.own

pub stopped_by-requires : goal.stopped_by-requires
stopped_by-requires g c = subst (λ answer. AreStepsOf answer (steps_left g.C.RouterCore.steps c.args.core)) c.in-Err.is c.requires.steps

pub returns-in-Ok-clause-told : goal.returns-in-Ok-clause-told
returns-in-Ok-clause-told g c = subst (λ answer. IfOk c.tell.result (λ report. IsToldOf answer report)) (sym c.in-Ok.is) c.tell.ensures.told

pub returns-in-Ok-clause-stopped : goal.returns-in-Ok-clause-stopped
returns-in-Ok-clause-stopped g c = subst (λ answer. IfErr c.tell.result (λ stopped. IsStoppedOf answer stopped)) (sym c.in-Ok.is) c.tell.ensures.fault

pub returns-in-Err-clause-stopped : goal.returns-in-Err-clause-stopped
returns-in-Err-clause-stopped g c = subst (λ answer. IsStoppedOf answer c.stopped_by.result) (sym c.in-Err.is) (c.stopped_by.ensures.fault, c.stopped_by.ensures.history)
