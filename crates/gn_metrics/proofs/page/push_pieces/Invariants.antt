use Rattle.std.proofs.Common.{◌≡◌, ◌++◌, take}
use Rattle.gn_metrics.specs.Page.{pieces_text}
use Rattle.gn_metrics.proofs.page.push_pieces.Given as goal

abbrev pub invariant-loop-piece : goal.invariant-loop-piece
invariant-loop-piece g l = l.out.items ≡ l.fn.out.items ++ pieces_text (take l.piece-index l.pieces)
