use Rattle.gn_shake.proofs.ShakingLemmas.{pieces_are_one_stream}
use Rattle.gn_shake.proofs.laws.pieces_are_one_stream.Goals as goal

pub returns : goal.returns
returns c = pieces_are_one_stream
