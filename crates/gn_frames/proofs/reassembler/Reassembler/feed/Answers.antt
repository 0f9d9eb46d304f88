use Rattle.std.proofs.Common.{◌++◌}
use Rattle.gn_frames.proofs.PiecesLemmas.{stays_open}
use Rattle.gn_frames.proofs.reassembler.Reassembler.feed.Goals as goal

pub invariant_of-self-else-is_some : goal.invariant_of-self-else-is_some
invariant_of-self-else-is_some g c =
    stays_open (c.self.inside.held.items ++ c.args.piece.now) c.take_piece.new.held.items c.in-Ok.fed.descriptors.items c.in-Ok.fed.fault c.is_some.result c.self.inside.ended
    c.in-Ok.ensures.ok c.is_some.ensures c.if-is_some.false c.if-self.false
