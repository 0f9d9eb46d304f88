-- The descriptors that a string of bytes encodes, and what stands after them.
use Rattle.std.specs.Prelude.{ℕ, ◌-◌, nat_lt, if◌then◌else◌, List, length, take, ◌≡◌, ◌<◌, ◌≤◌, ◌+◌, ◌⊎◌, ◌↔◌, zero, suc, [], ◌∷◌, ◌++◌, drop, Option, Some, None, All}
use Rattle.std.specs.Option.{option_map_or}
use Rattle.std.specs.List.{flat_map}
use Rattle.gn_wire.specs.Encoding.{header_at, bytes_of}
use Rattle.gn_wire.specs.Packet.{fault_of, IsDescriptor, Packet}
use Rattle.gn_wire.specs.declared.header.FrameFault.{FrameFault}
use Rattle.gn_frames.specs.declared.head.Head.{Head}
use Rattle.gn_frames.specs.declared.head.Head.TheVariants.{Open, Faulty, Whole}

-- what a string of bytes begins with: Whole where a whole descriptor stands there, Faulty where the header names an invalid length,
-- Open where bytes are wanting
abbrev pub head_of : List ℕ → Head
head_of s =
    let h = header_at (take 23 s) in
    if nat_lt (length s) 23 then Open
    else option_map_or Faulty (fault_of h.kind h.length) (if nat_lt (length s - 23) h.length then Open else Whole h)

-- the descriptors of a string, the rest after them, and the fault that ends it, where one does
pub record Frames : Type 0 where
  pub descriptors : List Packet
  pub rest : List ℕ
  pub fault : Option FrameFault

-- the payload length that the first 23 bytes name
abbrev pub named_length : List ℕ → ℕ
named_length r = (header_at (take 23 r)).length

-- the fault of that length, for the kind that they name
abbrev pub named_fault : List ℕ → Option FrameFault
named_fault r = fault_of (header_at (take 23 r)).kind (named_length r)

-- open: shorter than a header, or with a valid header and fewer payload bytes than it names
abbrev pub IsOpen : List ℕ → Type 0
IsOpen r = (length r < 23) ⊎ ((23 ≤ length r) × (named_fault r ≡ None) × (length r < 23 + named_length r))

-- faulty: the first 23 bytes name an invalid length
abbrev pub IsFaulty : List ℕ → FrameFault → Type 0
IsFaulty r fault = (23 ≤ length r) × (named_fault r ≡ Some fault)

-- a rest is open, and there is no fault, or it is faulty
abbrev pub IsRest : List ℕ → Option FrameFault → Type 0
IsRest r None = IsOpen r
IsRest r (Some fault) = IsFaulty r fault

-- a reading of a string: it is the encodings of descriptors, one after the other, and a rest
pub record IsFrames (s : List ℕ) (f : Frames) : Type 0 where
  pub encoded : s ≡ flat_map bytes_of f.descriptors ++ f.rest
  pub valid : All IsDescriptor f.descriptors
  pub ended : IsRest f.rest f.fault

-- the frames of a string, made from its head and the frames of what follows its first descriptor
abbrev pub frames_by : (List ℕ → Frames) → List ℕ → Head → Frames
-- no whole descriptor stands first: all bytes are the rest
frames_by later s Open = record { descriptors = []; rest = s; fault = None }
-- the first header has a fault: all bytes are the rest
frames_by later s (Faulty fault) = record { descriptors = []; rest = s; fault = Some fault }
-- the descriptor with the header h comes first, and then what follows
frames_by later s (Whole h) =
    let d : Packet = record { id = h.id; kind = h.kind; ttl = h.ttl; hops = h.hops; payload = take h.length (drop 23 s) } in
    let f = later (drop (23 + h.length) s) in record f { descriptors = d ∷ f.descriptors }

-- the frames of a string of at most n bytes
abbrev pub frames_within : ℕ → List ℕ → Frames
frames_within zero s = record { descriptors = []; rest = s; fault = None }
frames_within (suc n) s = frames_by (frames_within n) s (head_of s)

-- the frames of a string
unfoldable pub frames_of : List ℕ → Frames
frames_of s = frames_within (length s) s

-- no descriptor, and all bytes are the rest
abbrev pub no_frames : List ℕ → Option FrameFault → Frames
no_frames s fault = record { descriptors = []; rest = s; fault = fault }

-- these descriptors, and then those of other bytes, with their rest
abbrev pub prepended : List Packet → Frames → Frames
prepended ds f = record { descriptors = ds ++ f.descriptors; rest = f.rest; fault = f.fault }

-- a string of bytes has just one reading, and the function gives it
abbrev pub FramesAreOne : Type 0
FramesAreOne = (s : List ℕ) → All (λ b. b < 256) s → (f : Frames) → IsFrames s f ↔ (f ≡ frames_of s)

-- a string that goes on has its descriptors and then those of its rest with what is new; a fault stays
pub record IsCut (s more : List ℕ) : Type 0 where
  pub frames : frames_of (s ++ more) ≡ prepended (frames_of s).descriptors (frames_of ((frames_of s).rest ++ more))
  pub fault : (fault : FrameFault) → (frames_of s).fault ≡ Some fault
      → frames_of (s ++ more) ≡ record { descriptors = (frames_of s).descriptors; rest = (frames_of s).rest ++ more; fault = Some fault }

-- strings may be cut anywhere
abbrev pub FramesAreCut : Type 0
FramesAreCut = (s more : List ℕ) → IsCut s more
