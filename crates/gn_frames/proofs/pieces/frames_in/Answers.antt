use Rattle.std.proofs.Common.{◌∙◌}
use Rattle.gn_frames.proofs.PiecesLemmas.{found_taken}
use Rattle.gn_frames.proofs.pieces.frames_in.Goals as goal

pub returns : goal.returns
returns g c =
    found_taken c.args.bytes.now c.in_ok-shared.shared c.take_frames.new.bytes c.in_ok-rest.rest.items c.new-descriptors.result.items c.take_frames.new.descriptors.items
    c.in_ok-fault.fault c.in_ok-shared.ensures c.new-descriptors.ensures.items c.in_ok-fault.ensures (c.in_ok-rest.ensures ∙ c.as_slice.ensures)
