use Rattle.gn_frames.proofs.FramesLemmas.{frames_are_cut}
use Rattle.gn_frames.proofs.laws.frames_are_cut.Goals as goal

pub returns : goal.returns
returns c = frames_are_cut
