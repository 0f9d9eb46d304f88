use Rattle.std.proofs.Common.{◌∙◌, ap, arith, sym}
use Rattle.gn_text.specs.Lines.{is_skipped}
use Rattle.gn_stream.specs.Reading.{place}
use Rattle.gn_stream.proofs.EntryLemmas.{entry_said, entry_skipped, entry_unread}
use Rattle.gn_stream.proofs.NumberedLemmas.{next_grows}
use Rattle.gn_stream.proofs.entries.next_entry.Goals as goal

pub returns-then-is_skipped-clause-read : goal.returns-then-is_skipped-clause-read
returns-then-is_skipped-clause-read g c =
    entry_skipped g.row.A.Denot c.in-Some.number c.next_line.new.self.line (place (g.S.Source.state c.args.source.now) c.args.lines.now)
    (place (g.S.Source.state c.next_line.new.source) c.next_line.new.self) (rw c.in-Some.is at c.in_ok-number.ensures.read) c.args.due.now
    (ap is_skipped (sym c.line.ensures) ∙ sym c.is_skipped.ensures ∙ c.if-is_skipped.true)

pub returns-then-is_skipped-clause-numbered : goal.returns-then-is_skipped-clause-numbered
returns-then-is_skipped-clause-numbered g c =
    let grows =
    next_grows c.in-Some.number c.next_line.new.self.line (place (g.S.Source.state c.args.source.now) c.args.lines.now)
    (place (g.S.Source.state c.next_line.new.source) c.next_line.new.self) (rw c.in-Some.is at c.in_ok-number.ensures.read) in
    omega (arith, grows.0)

pub returns-in_err-after-clause-read : goal.returns-in_err-after-clause-read
returns-in_err-after-clause-read g c =
    entry_unread g.row.A.Denot c.in-Some.number c.next_line.new.self.line (place (g.S.Source.state c.args.source.now) c.args.lines.now)
    (place (g.S.Source.state c.next_line.new.source) c.next_line.new.self) (rw c.in-Some.is at c.in_ok-number.ensures.read) c.args.due.now c.args.due.now
    c.from_residual-in_err-after.result c.in_err-after.field-0.0 c.from_residual-in_err-after.ensures.1
    (ap is_skipped (sym c.line.ensures) ∙ sym c.is_skipped.ensures ∙ c.if-is_skipped.false) (rw c.line-2.ensures at c.in_err-after.ensures)

pub returns-clause-read : goal.returns-clause-read
returns-clause-read g c =
    entry_said g.row.A.Denot c.in-Some.number c.next_line.new.self.line (place (g.S.Source.state c.args.source.now) c.args.lines.now)
    (place (g.S.Source.state c.next_line.new.source) c.next_line.new.self) (rw c.in-Some.is at c.in_ok-number.ensures.read) c.args.due.now c.in_ok-after.after c.in_ok-after.entry
    (ap is_skipped (sym c.line.ensures) ∙ sym c.is_skipped.ensures ∙ c.if-is_skipped.false) (rw c.line-2.ensures at c.in_ok-after.ensures)

pub returns-clause-numbered : goal.returns-clause-numbered
returns-clause-numbered g c =
    let grows =
    next_grows c.in-Some.number c.next_line.new.self.line (place (g.S.Source.state c.args.source.now) c.args.lines.now)
    (place (g.S.Source.state c.next_line.new.source) c.next_line.new.self) (rw c.in-Some.is at c.in_ok-number.ensures.read) in
    omega (arith, grows.0)
