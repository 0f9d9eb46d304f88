use Rattle.std.specs.Prelude.{◌≡◌, ◌+◌, drop}
use Rattle.gn_capture.specs.Replies.{mark_place}
use Rattle.gn_capture.proofs.sends.mark_place.Given as goal

abbrev pub invariant-loop-i : goal.invariant-loop-i
invariant-loop-i l = l.i + mark_place (drop l.i l.field) ≡ mark_place l.field
