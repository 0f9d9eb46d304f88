use Rattle.gn_payload.proofs.SoundLemmas.{sound_at}
use Rattle.gn_payload.proofs.laws.sound_is_read.Goals as goal

pub returns : goal.returns
returns c = λ d. sound_at d.kind d.payload
