use Rattle.gn_frames.proofs.StreamLemmas.{pieces_are_one_stream}
use Rattle.gn_frames.proofs.laws.pieces_are_one_stream.Goals as goal

pub returns : goal.returns
returns c = pieces_are_one_stream
