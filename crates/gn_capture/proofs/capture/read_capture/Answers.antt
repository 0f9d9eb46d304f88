use Rattle.std.proofs.Common.{◌≡◌, ◌∙◌, Bool, Ok, ap, subst}
use Rattle.gn_text.specs.Faults.{IsRefused}
use Rattle.gn_text.specs.Header.{header_seen}
use Rattle.gn_text.specs.Parsed.{Numbered, parsed_of}
use Rattle.gn_capture.specs.Captures.{capture_header, has_all, lines_from}
use Rattle.gn_capture.proofs.FirstLemmas.{body_refused, known_first}
use Rattle.gn_capture.proofs.capture.read_capture.Goals as goal

pub returns-in-Err-read_lines-clause-first : goal.returns-in-Err-read_lines-clause-first
returns-in-Err-read_lines-clause-first g c =
    let text = c.args.text.now in
    let refusal = c.in-Err-read_lines.refusal in
    let header = header_seen c.in-Ok.config c.read_first_lines.new.lines in
    let begun : capture_header text ≡ Ok header = rw c.of-lines.ensures at c.in-Ok.ensures in
    let fifth : c.has_all-has_all.result ≡ has_all (parsed_of text) = c.has_all-has_all.ensures ∙ ap (λ (n : Numbered). has_all n.lines) c.of-lines.ensures in
    known_first _ text refusal
    (body_refused _ text header refusal begun
    (subst (λ (all : Bool). IsRefused refusal (lines_from all 0 c.read_first_lines.new.lines.lines)) fifth c.in-Err-read_lines.ensures))
