use Rattle.std.proofs.Common.{sym, ap, ◌∙◌}
use Rattle.gn_frames.specs.Frames.{head_of}
use Rattle.gn_frames.proofs.PiecesLemmas.{taken_open, taken_faulty}
use Rattle.gn_frames.proofs.pieces.take_frames.Goals as goal

pub returns-in-Open : goal.returns-in-Open
returns-in-Open g c =
    taken_open c.args.bytes.now c.loop-fault.bytes c.args.descriptors.now.items c.loop-fault.descriptors.items
    (sym (c.head_of.ensures ∙ ap head_of c.as_slice.ensures) ∙ c.in-Open.is) c.loop-fault.invariant

pub returns-in-Faulty : goal.returns-in-Faulty
returns-in-Faulty g c =
    taken_faulty c.args.bytes.now c.loop-fault.bytes c.args.descriptors.now.items c.loop-fault.descriptors.items c.in-Faulty.fault
    (sym (c.head_of.ensures ∙ ap head_of c.as_slice.ensures) ∙ c.in-Faulty.is) c.loop-fault.invariant
