use Rattle.std.proofs.Common.{◌∙◌, ap, map, refl, sym}
use Rattle.gn_text.specs.Header.{config_from, own_from}
use Rattle.gn_text.specs.Lines.{fields_of}
use Rattle.gn_text.specs.Settings.{config_of}
use Rattle.gn_numbers.specs.declared.causes.Cause.TheVariants.{Config}
use Rattle.gn_stream.specs.Reading.{place}
use Rattle.gn_stream.proofs.HeaderLemmas.{other, said_none, said_then}
use Rattle.gn_stream.proofs.header.read_config_line.Goals as goal

pub returns-in_err-fields : goal.returns-in_err-fields
returns-in_err-fields g c =
    said_none (config_from c.args.version) c.in-Some.number c.next_numbered.new.lines.line c.from_residual-in_err-fields.result
    (place (g.S.Source.state c.args.source.now) c.args.lines.now) (place (g.S.Source.state c.next_numbered.new.source) c.next_numbered.new.lines)
    c.from_residual-in_err-fields.ensures.1 (rw c.in-Some.is at c.in_ok-number.ensures)

pub returns-in-Some-numbers : goal.returns-in-Some-numbers
returns-in-Some-numbers g c =
    let fields = ap fields_of (sym c.line.ensures) ∙ sym c.in_ok-fields.ensures ∙ ap (map (λ x. x.now)) (sym c.deref.ensures.value) in
    let says = ap (config_of c.args.version) fields ∙ sym (rw c.in-Some-numbers.is at c.read_config-numbers.ensures.value) in
    said_then (config_from c.args.version) (own_from c.in-Some-numbers.numbers) c.in-Some.number c.next_numbered.new.lines.line
    (place (g.S.Source.state c.args.source.now) c.args.lines.now) (place (g.S.Source.state c.next_numbered.new.source) c.next_numbered.new.lines)
    (place (g.S.Source.state c.read_own_line.new.source) c.read_own_line.new.lines) c.read_own_line.result
    (λ after lines more is. rw (is, says) refl) (rw c.in-Some.is at c.in_ok-number.ensures) c.read_own_line.ensures

pub returns-in-None : goal.returns-in-None
returns-in-None g c =
    let fields = ap fields_of (sym c.line.ensures) ∙ sym c.in_ok-fields.ensures ∙ ap (map (λ x. x.now)) (sym c.deref.ensures.value) in
    let says = ap (config_of c.args.version) fields ∙ sym (rw c.in-None.is at c.read_config-numbers.ensures.value) in
    rw c.at.ensures (other (config_from c.args.version) Config c.in-Some.number c.next_numbered.new.lines.line
    (place (g.S.Source.state c.args.source.now) c.args.lines.now) (place (g.S.Source.state c.next_numbered.new.source) c.next_numbered.new.lines)
    (λ after lines more is. rw (is, says) refl) (rw c.in-Some.is at c.in_ok-number.ensures))

pub read_own_line-requires : goal.read_own_line-requires
read_own_line-requires g c = rw c.in-Some-numbers.is at c.read_config-numbers.ensures.each
