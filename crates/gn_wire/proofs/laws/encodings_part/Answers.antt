use Rattle.gn_wire.proofs.EncodingLemmas.{encodings_part}
use Rattle.gn_wire.proofs.laws.encodings_part.Goals as goal

pub returns : goal.returns
returns c = encodings_part
