use Rattle.gn_replay.proofs.OneText.{text_is_one}
use Rattle.gn_replay.proofs.laws.replay_text_is_one.Goals as goal

pub returns : goal.returns
returns g c = text_is_one _
