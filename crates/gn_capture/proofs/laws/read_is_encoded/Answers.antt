use Rattle.gn_capture.proofs.EncodedLemmas.{read_is_encoded}
use Rattle.gn_capture.proofs.laws.read_is_encoded.Goals as goal

pub returns : goal.returns
returns c = read_is_encoded
