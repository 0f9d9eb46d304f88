use Rattle.std.proofs.Common.{◌∙◌, ap, arith, sym}
use Rattle.gn_text.specs.Lines.{is_skipped}
use Rattle.gn_stream.specs.Reading.{place}
use Rattle.gn_stream.proofs.NumberedLemmas.{found_numbered, next_grows, none_numbered, numbered_failed, skipped_more, skips_none}
use Rattle.gn_stream.proofs.numbered.next_numbered.Goals as goal

pub loop-number-init : goal.loop-number-init
loop-number-init g c = skips_none (place (g.S.Source.state c.args.source.now) c.args.lines.now)

pub returns-in_err-number : goal.returns-in_err-number
returns-in_err-number g c =
    numbered_failed c.from_residual.result _ (place (g.S.Source.state c.args.source.now) c.args.lines.now) (place (g.S.Source.state c.loop-number.source) c.loop-number.lines)
    (place (g.S.Source.state c.next_line.new.source) c.next_line.new.self) c.from_residual.ensures.1 c.loop-number.invariant c.in_err-number.ensures.read

pub returns-then-not-is_skipped : goal.returns-then-not-is_skipped
returns-then-not-is_skipped g c =
    found_numbered c.in-Some.number c.next_line.new.self.line (place (g.S.Source.state c.args.source.now) c.args.lines.now) (place (g.S.Source.state c.loop-number.source) c.loop-number.lines)
    (place (g.S.Source.state c.next_line.new.source) c.next_line.new.self) (ap is_skipped (sym c.line.ensures) ∙ sym c.is_skipped.ensures ∙ c.if-not-is_skipped.true)
    c.loop-number.invariant (rw c.in-Some.is at c.in_ok-number.ensures.read)

pub loop-number-smaller : goal.loop-number-smaller
loop-number-smaller g c =
    let grows =
    next_grows c.in-Some.number c.next_line.new.self.line (place (g.S.Source.state c.loop-number.source) c.loop-number.lines) (place (g.S.Source.state c.next_line.new.source) c.next_line.new.self)
    (rw c.in-Some.is at c.in_ok-number.ensures.read) in
    omega (arith, grows.0, grows.1)

pub loop-number-preserved : goal.loop-number-preserved
loop-number-preserved g c =
    skipped_more c.in-Some.number c.next_line.new.self.line (place (g.S.Source.state c.args.source.now) c.args.lines.now) (place (g.S.Source.state c.loop-number.source) c.loop-number.lines)
    (place (g.S.Source.state c.next_line.new.source) c.next_line.new.self) (ap is_skipped (sym c.line.ensures) ∙ sym c.is_skipped.ensures ∙ c.if-not-is_skipped.false)
    c.loop-number.invariant (rw c.in-Some.is at c.in_ok-number.ensures.read)

pub returns : goal.returns
returns g c =
    none_numbered (place (g.S.Source.state c.args.source.now) c.args.lines.now) (place (g.S.Source.state c.loop-number.source) c.loop-number.lines)
    (place (g.S.Source.state c.next_line.new.source) c.next_line.new.self) c.loop-number.invariant (rw c.in_default.is at c.in_ok-number.ensures.read)
