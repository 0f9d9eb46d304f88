use Rattle.gn_frames.proofs.ReadingLemmas.{frames_are_one}
use Rattle.gn_frames.proofs.laws.frames_are_one.Goals as goal

pub returns : goal.returns
returns c = frames_are_one
