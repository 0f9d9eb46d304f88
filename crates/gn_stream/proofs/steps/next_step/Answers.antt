use Rattle.std.proofs.Common.{◌∙◌, ap, sym}
use Rattle.gn_capture.specs.Histories.{line_parsed}
use Rattle.gn_text.specs.Faults.{IsRead}
use Rattle.gn_stream.specs.Reading.{place}
use Rattle.gn_stream.proofs.StepLemmas.{end_failed, end_read, line_failed, step_found}
use Rattle.gn_stream.proofs.steps.next_step.Goals as goal

pub returns-in_err-step-clause-read : goal.returns-in_err-step-clause-read
returns-in_err-step-clause-read g c =
    line_failed g.row.A.Denot c.in-Some.number c.next_numbered.new.lines.line c.from_residual-in_err-step.result _
    (place (g.S.Source.state c.args.source.now) c.args.lines.now) (place (g.S.Source.state c.next_numbered.new.source) c.next_numbered.new.lines)
    c.from_residual-in_err-step.ensures.1 (rw c.line.ensures at c.in_err-step.ensures) (rw c.in-Some.is at c.in_ok-number.ensures)

pub returns-in_err-read_end-in-None-clause-read : goal.returns-in_err-read_end-in-None-clause-read
returns-in_err-read_end-in-None-clause-read g c =
    end_failed g.row.A.Denot c.in-Some.number c.next_numbered.new.lines.line c.from_residual-in_err-read_end-in-None.result _
    (place (g.S.Source.state c.args.source.now) c.args.lines.now) (place (g.S.Source.state c.next_numbered.new.source) c.next_numbered.new.lines)
    (place (g.S.Source.state c.read_end.new.source) c.read_end.new.lines) c.read_end.new.lines.line
    c.from_residual-in_err-read_end-in-None.ensures.1 (rw (c.line.ensures, c.in-None.is) at c.in_ok-step.ensures) (rw c.in-Some.is at c.in_ok-number.ensures) c.in_err-read_end-in-None.ensures

pub returns-in-Some-2-clause-read : goal.returns-in-Some-2-clause-read
returns-in-Some-2-clause-read g c =
    step_found g.row.A.Denot c.in-Some.number c.next_numbered.new.lines.line c.in-Some-2.step
    (place (g.S.Source.state c.args.source.now) c.args.lines.now) (place (g.S.Source.state c.next_numbered.new.source) c.next_numbered.new.lines)
    (rw (c.line.ensures, c.in-Some-2.is) at c.in_ok-step.ensures) (rw c.in-Some.is at c.in_ok-number.ensures)

pub returns-in_ok-read_end-in-None-clause-read : goal.returns-in_ok-read_end-in-None-clause-read
returns-in_ok-read_end-in-None-clause-read g c =
    end_read g.row.A.Denot c.in-Some.number c.next_numbered.new.lines.line
    (place (g.S.Source.state c.args.source.now) c.args.lines.now) (place (g.S.Source.state c.next_numbered.new.source) c.next_numbered.new.lines)
    (place (g.S.Source.state c.read_end.new.source) c.read_end.new.lines) _ (rw (c.line.ensures, c.in-None.is) at c.in_ok-step.ensures) (rw c.in-Some.is at c.in_ok-number.ensures)
    c.in_ok-read_end-in-None.ensures
