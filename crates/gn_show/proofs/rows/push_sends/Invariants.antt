use Rattle.std.specs.Prelude.{◌≡◌, ◌++◌, take}
use Rattle.std.specs.List.{flat_map}
use Rattle.gn_show.specs.Kept.{placed, seen}
use Rattle.gn_show.specs.Rows.{send_line}
use Rattle.gn_show.proofs.rows.push_sends.Given as goal

abbrev pub invariant-loop-sending : goal.invariant-loop-sending
invariant-loop-sending l =
    l.rows ≡ l.fn.rows ++ flat_map (send_line (seen l.shown.subject) (placed l.shown.moment) l.shown.step.now) (take l.sending-index l.sends)
