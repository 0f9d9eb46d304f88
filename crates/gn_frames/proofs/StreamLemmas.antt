-- Pieces that are fed one by one.
use Rattle.std.proofs.Common.{◌≡◌, ℕ, List, ◌++◌, Option, Some, None, sym, ap, ◌∙◌}
use Rattle.gn_wire.specs.declared.header.FrameFault.{FrameFault}
use Rattle.gn_wire.specs.Packet.{Packet}
use Rattle.gn_frames.specs.Frames.{Frames, prepended, frames_of}
use Rattle.gn_frames.specs.Reassembly.{unless_ended, held_of, IsAnswer, IsStreamed, PiecesAreOneStream}
use Rattle.gn_frames.proofs.FramesLemmas.{cut}

streamed : (s piece : List ℕ) (descriptors : List Packet) (fault found : Option FrameFault) (after : Option (List ℕ))
    → IsAnswer (unless_ended found (frames_of s).rest) piece descriptors fault after → IsStreamed s piece descriptors fault after
streamed s piece descriptors fault None after fed =
    let all : frames_of (s ++ piece) ≡ prepended (frames_of s).descriptors (frames_of ((frames_of s).rest ++ piece)) = cut s piece in
    record {
      all = ap (λ (f : Frames). f.descriptors) all ∙ ap (λ ds. (frames_of s).descriptors ++ ds) (sym fed.all);
      ends = ap (λ (f : Frames). f.fault) all ∙ sym fed.ends;
      held = ap held_of all ∙ sym fed.held;
    }
streamed s piece descriptors fault (Some found) after fed = absurd fed

pub pieces_are_one_stream : PiecesAreOneStream
pieces_are_one_stream s piece descriptors fault after fed = streamed s piece descriptors fault (frames_of s).fault after fed
