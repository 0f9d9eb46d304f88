-- What a reassembler holds, and what a piece makes of it.
use Rattle.std.specs.Prelude.{◌≡◌, ℕ, List, ◌++◌, length, Option, Some, None}
use Rattle.gn_wire.specs.declared.header.FrameFault.{FrameFault}
use Rattle.gn_wire.specs.Packet.{Packet}
use Rattle.gn_frames.specs.declared.reassembler.FeedRefusal.{FeedRefusal}
use Rattle.gn_frames.specs.declared.reassembler.FeedRefusal.TheVariants.{Ended, NoMemory}
use Rattle.gn_frames.specs.Frames.{Frames, frames_of}

-- the rest, where no fault ended the stream
abbrev pub unless_ended : Option FrameFault → List ℕ → Option (List ℕ)
unless_ended None rest = Some rest
unless_ended (Some fault) rest = None

-- what is held after a string: its rest, or nothing more where it ended with a fault
abbrev pub held_of : Frames → Option (List ℕ)
held_of f = unless_ended f.fault f.rest

-- what is answered is the frames of the held bytes with the piece after them, and their rest is held from then on
pub record IsFed (rest piece : List ℕ) (descriptors : List Packet) (fault : Option FrameFault) (after : Option (List ℕ)) : Type 0 where
  pub all : descriptors ≡ (frames_of (rest ++ piece)).descriptors
  pub ends : fault ≡ (frames_of (rest ++ piece)).fault
  pub held : after ≡ held_of (frames_of (rest ++ piece))

-- the answer of a reassembler: there is none where a fault was answered before
abbrev pub IsAnswer : Option (List ℕ) → List ℕ → List Packet → Option FrameFault → Option (List ℕ) → Type 0
IsAnswer None piece descriptors fault after = ⊥
IsAnswer (Some rest) piece descriptors fault after = IsFed rest piece descriptors fault after

-- the refusal: ended after a fault, else out of memory
abbrev pub IsFeedRefusal : Option (List ℕ) → FeedRefusal → Type 0
IsFeedRefusal None refusal = refusal ≡ Ended
IsFeedRefusal (Some rest) refusal = refusal ≡ NoMemory

-- how many bytes are held
abbrev pub pending_of : Option (List ℕ) → ℕ
pending_of None = 0
pending_of (Some rest) = length rest

-- an answer adds to the frames of the stream so far: its descriptors come after theirs, its fault is that of all bytes,
-- and what is held is what all bytes leave
pub record IsStreamed (s piece : List ℕ) (descriptors : List Packet) (fault : Option FrameFault) (after : Option (List ℕ)) : Type 0 where
  pub all : (frames_of (s ++ piece)).descriptors ≡ (frames_of s).descriptors ++ descriptors
  pub ends : (frames_of (s ++ piece)).fault ≡ fault
  pub held : held_of (frames_of (s ++ piece)) ≡ after

-- feeding pieces one by one gives the frames of all their bytes
abbrev pub PiecesAreOneStream : Type 0
PiecesAreOneStream =
    (s piece : List ℕ) (descriptors : List Packet) (fault : Option FrameFault) (after : Option (List ℕ))
    → IsAnswer (held_of (frames_of s)) piece descriptors fault after → IsStreamed s piece descriptors fault after
