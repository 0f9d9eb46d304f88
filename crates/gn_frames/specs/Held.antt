-- What a reassembler keeps.
use Rattle.std.specs.Prelude.{◌≡◌, ℕ, Bool, true, false, List, [], Option, Some, None}
use Rattle.gn_frames.specs.declared.head.Head.TheVariants.{Open}
use Rattle.gn_frames.specs.Frames.{head_of}

-- its value: the bytes that are held, or none once a fault ended the stream
abbrev pub held_view : Bool → List ℕ → Option (List ℕ)
held_view false held = Some held
held_view true held = None

-- what is held begins no whole descriptor, and is nothing once the stream ended
abbrev pub IsHeld : Bool → List ℕ → Type 0
IsHeld false held = head_of held ≡ Open
IsHeld true held = held ≡ []
