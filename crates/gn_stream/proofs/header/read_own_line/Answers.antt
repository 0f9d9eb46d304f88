use Rattle.std.proofs.Common.{◌∙◌, ap, map, refl, sym}
use Rattle.gn_text.specs.Header.{own_from}
use Rattle.gn_text.specs.Lines.{fields_of}
use Rattle.gn_text.specs.Settings.{own_of}
use Rattle.gn_numbers.specs.declared.causes.Cause.TheVariants.{Own}
use Rattle.gn_stream.specs.Reading.{place}
use Rattle.gn_stream.proofs.HeaderLemmas.{other, said, said_none}
use Rattle.gn_stream.proofs.header.read_own_line.Goals as goal

pub returns-in_err-fields : goal.returns-in_err-fields
returns-in_err-fields g c =
    said_none (own_from c.args.numbers) c.in-Some.number c.next_numbered.new.lines.line c.from_residual-in_err-fields.result
    (place (g.S.Source.state c.args.source.now) c.args.lines.now) (place (g.S.Source.state c.next_numbered.new.source) c.next_numbered.new.lines)
    c.from_residual-in_err-fields.ensures.1 (rw c.in-Some.is at c.in_ok-number.ensures)

pub returns-in_err-own : goal.returns-in_err-own
returns-in_err-own g c =
    said_none (own_from c.args.numbers) c.in-Some.number c.next_numbered.new.lines.line c.from_residual-in_err-own.result
    (place (g.S.Source.state c.args.source.now) c.args.lines.now) (place (g.S.Source.state c.next_numbered.new.source) c.next_numbered.new.lines)
    c.from_residual-in_err-own.ensures.1 (rw c.in-Some.is at c.in_ok-number.ensures)

pub returns-in-Some-2 : goal.returns-in-Some-2
returns-in-Some-2 g c =
    let fields = ap fields_of (sym c.line.ensures) ∙ sym c.in_ok-fields.ensures ∙ ap (map (λ x. x.now)) (sym c.deref.ensures.value) in
    let says = ap own_of fields ∙ sym c.in_ok-own.ensures ∙ c.in-Some-2.is in
    said (own_from c.args.numbers) c.with.result c.in-Some.number c.next_numbered.new.lines.line
    (place (g.S.Source.state c.args.source.now) c.args.lines.now) (place (g.S.Source.state c.next_numbered.new.source) c.next_numbered.new.lines)
    (λ after lines more is. rw (is, says, c.with.ensures.0, c.with.ensures.1) refl)
    (rw c.in-Some.is at c.in_ok-number.ensures)

pub returns : goal.returns
returns g c =
    let fields = ap fields_of (sym c.line.ensures) ∙ sym c.in_ok-fields.ensures ∙ ap (map (λ x. x.now)) (sym c.deref.ensures.value) in
    let says = ap own_of fields ∙ sym c.in_ok-own.ensures ∙ c.in-None.is in
    rw c.at.ensures (other (own_from c.args.numbers) Own c.in-Some.number c.next_numbered.new.lines.line
    (place (g.S.Source.state c.args.source.now) c.args.lines.now) (place (g.S.Source.state c.next_numbered.new.source) c.next_numbered.new.lines)
    (λ after lines more is. rw (is, says) refl) (rw c.in-Some.is at c.in_ok-number.ensures))
