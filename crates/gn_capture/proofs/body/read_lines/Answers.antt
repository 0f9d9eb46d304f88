use Rattle.std.proofs.Common.{arith, sym, ◌∙◌}
use Rattle.gn_capture.proofs.ParsedLemmas.{all_parsed, links_grow, refused_line, numbered_more}
use Rattle.gn_capture.proofs.body.read_lines.Goals as goal

pub loop-line-preserved : goal.loop-line-preserved
loop-line-preserved g c = record {
  links = rw (c.links_after-links.ensures, c.in_ok-push-in-Ok-read_numbered.ensures.len) (omega (arith, links_grow c.loop-line.links c.in-Ok-read_numbered.said, c.loop-line.invariant.links));
  parsed = rw (c.links_after-links.ensures, c.in_ok-push-in-Ok-read_numbered.ensures.items) (sym (numbered_more c.args.has_all c.loop-line.parsed.items c.loop-line.links c.in-Ok.line.0 c.in-Ok.line.1.now c.loop-line.lines.lines c.next_line.new.self.lines c.in-Ok-read_numbered.said c.in-Ok.ensures.first c.in-Ok-read_numbered.ensures) ∙ c.loop-line.invariant.parsed);
}

pub returns-in-Err : goal.returns-in-Err
returns-in-Err g c =
    refused_line c.args.has_all c.loop-line.parsed.items c.loop-line.links c.in-Ok.line.0 c.in-Ok.line.1.now c.loop-line.lines.lines c.next_line.new.self.lines c.in-Err.refusal _
    c.in-Ok.ensures.first c.loop-line.invariant.parsed c.in-Err.ensures

pub returns : goal.returns
returns g c =
    sym c.loop-line.invariant.parsed ∙ all_parsed c.args.has_all c.loop-line.parsed.items c.loop-line.links c.loop-line.lines.lines c.in_default.ensures.first.0
