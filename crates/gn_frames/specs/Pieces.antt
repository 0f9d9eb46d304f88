-- The frames of bytes, on the path to those of what is held and a piece.
use Rattle.std.specs.Prelude.{◌≡◌, ℕ, List, ◌++◌, Option, None}
use Rattle.gn_wire.specs.declared.header.FrameFault.{FrameFault}
use Rattle.gn_wire.specs.Packet.{Packet}
use Rattle.gn_frames.specs.Frames.{frames_of}

-- the descriptors of some bytes were added, and this rest and fault found
pub record IsTaken (bytes : List ℕ) (before after : List Packet) (left : List ℕ) (found : Option FrameFault) : Type 0 where
  pub descriptors : after ≡ before ++ (frames_of bytes).descriptors
  pub rest : left ≡ (frames_of bytes).rest
  pub fault : found ≡ (frames_of bytes).fault

-- what was found in bytes, with their rest kept where no fault ended them
pub record IsFound (bytes : List ℕ) (descriptors : List Packet) (found : Option FrameFault) (kept : List ℕ) : Type 0 where
  pub all : descriptors ≡ (frames_of bytes).descriptors
  pub fault : found ≡ (frames_of bytes).fault
  pub rest : found ≡ None → kept ≡ (frames_of bytes).rest
