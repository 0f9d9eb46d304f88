use Rattle.std.proofs.Common.{◌≡◌, ◌≤◌, length, vec_len}
use Rattle.gn_capture.specs.Captures.{lines_from}
use Rattle.gn_capture.proofs.ParsedLemmas.{left}
use Rattle.gn_capture.proofs.body.read_lines.Given as goal

abbrev pub invariant-loop-line : goal.invariant-loop-line
invariant-loop-line g l = record {
  links : l.links ≤ vec_len l.parsed;
  parsed : left l.has_all l.parsed.items l.links l.lines.lines ≡ lines_from l.has_all 0 l.fn.lines.lines;
}

abbrev pub decreases-loop-line : goal.decreases-loop-line
decreases-loop-line g l = length l.lines.lines
