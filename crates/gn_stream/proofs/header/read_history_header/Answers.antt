use Rattle.std.proofs.Common.{◌∙◌, ap, refl, sym}
use Rattle.gn_text.specs.Header.{config_from, header_of}
use Rattle.gn_numbers.specs.Names.{version_of}
use Rattle.gn_numbers.specs.declared.titles.Text.TheVariants.{History}
use Rattle.gn_stream.specs.Reading.{place}
use Rattle.gn_stream.proofs.HeaderLemmas.{said_then}
use Rattle.gn_stream.proofs.header.read_history_header.Goals as goal

pub returns-in-Some-read_version : goal.returns-in-Some-read_version
returns-in-Some-read_version g c =
    let says = ap (version_of History) (sym c.line.ensures) ∙ sym c.read_version.ensures ∙ c.in-Some-read_version.is in
    said_then (header_of History) (config_from c.in-Some-read_version.version) c.in-Some.number c.next_numbered.new.lines.line
    (place (g.S.Source.state c.args.source.now) c.args.lines.now) (place (g.S.Source.state c.next_numbered.new.source) c.next_numbered.new.lines)
    (place (g.S.Source.state c.read_config_line.new.source) c.read_config_line.new.lines) c.read_config_line.result
    (λ after lines more is. rw (is, says) refl) (rw c.in-Some.is at c.in_ok-number.ensures) c.read_config_line.ensures
