use Rattle.std.proofs.Common.{◌≡◌, ◌++◌, ◌-◌, ◌≤◌, take, length, true}
use Rattle.gn_bodies.proofs.writer.write_text.Given as goal

abbrev pub decreases-loop-at : goal.decreases-loop-at
decreases-loop-at g l = length l.text - l.at

abbrev pub invariant-loop-at : goal.invariant-loop-at
invariant-loop-at g l = record {
  within : l.at ≤ length l.text;
  made : g.W.LinkWriter.made_of l.writer ≡ g.W.LinkWriter.made_of l.initial.writer;
  known : (g.W.LinkWriter.state l.writer).is_known ≡ (g.W.LinkWriter.state l.initial.writer).is_known;
  bytes : (g.W.LinkWriter.state l.initial.writer).is_known ≡ true → (g.W.LinkWriter.state l.writer).bytes ≡ (g.W.LinkWriter.state l.initial.writer).bytes ++ take l.at l.text;
}
