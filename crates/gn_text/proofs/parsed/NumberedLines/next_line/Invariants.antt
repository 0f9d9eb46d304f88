use Rattle.std.specs.Prelude.{◌≡◌, ◌<◌, ◌+◌, ◌^◌, length}
use Rattle.gn_text.specs.Lines.{lines_of}
use Rattle.gn_text.specs.Parsed.{numbered_from}
use Rattle.gn_text.proofs.parsed.NumberedLines.next_line.Given as goal

abbrev pub invariant-loop-line : goal.invariant-loop-line
invariant-loop-line l = record {
  lines : numbered_from l.self-inside.number (lines_of l.self-inside.text.now) ≡ l.fn.self.lines;
  after : length (lines_of l.self-inside.text.now) + l.self-inside.number ≡ l.fn.self.after;
  few : l.self-inside.number + length l.self-inside.text.now < 2 ^ 64;
}

abbrev pub decreases-loop-line : goal.decreases-loop-line
decreases-loop-line l = length l.self-inside.text.now
