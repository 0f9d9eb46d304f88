use Rattle.std.proofs.Common.{sym, ◌++◌, ◌∙◌}
use Rattle.gn_frames.proofs.PiecesLemmas.{found_open}
use Rattle.gn_frames.proofs.pieces.take_piece.Goals as goal

pub returns-in-Open-clause-ok : goal.returns-in-Open-clause-ok
returns-in-Open-clause-ok g c =
    found_open (c.args.held.now.items ++ c.args.piece.now) c.extend_from_slice.new.self.items c.as_slice.result.now c.new.result.items
    c.in_ok-extend_from_slice.ensures.ok c.as_slice.ensures (sym c.head_of.ensures ∙ c.in-Open.is) c.new.ensures.items
