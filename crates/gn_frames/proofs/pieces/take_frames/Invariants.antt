use Rattle.std.proofs.Common.{◌≡◌, length}
use Rattle.gn_frames.specs.Frames.{prepended, frames_of}
use Rattle.gn_frames.proofs.pieces.take_frames.Given as goal

abbrev pub invariant-loop-fault : goal.invariant-loop-fault
invariant-loop-fault g l = prepended l.descriptors.items (frames_of l.bytes) ≡ prepended l.initial.descriptors.items (frames_of l.initial.bytes)

abbrev pub decreases-loop-fault : goal.decreases-loop-fault
decreases-loop-fault g l = length l.bytes
