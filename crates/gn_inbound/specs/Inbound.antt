-- Where the bytes that come on a link stand, and what a piece more gives.
use Rattle.std.specs.Prelude.{◌≡◌, ℕ, Bool, true, false, not, ◌&&◌, List, ◌++◌, drop, length, Option, None}
use Rattle.gn_wire.specs.Packet.{Packet}
use Rattle.gn_wire.specs.declared.header.FrameFault.{FrameFault}
use Rattle.gn_frames.specs.Frames.{Frames, frames_of, no_frames}
use Rattle.gn_frames.specs.Reassembly.{held_of}
use Rattle.gn_shake.specs.declared.role.Role.{Role}
use Rattle.gn_shake.specs.declared.shake.ShakeState.{ShakeState}
use Rattle.gn_shake.specs.declared.shake.ShakeState.TheVariants as state
use Rattle.gn_shake.specs.Greeting.{greeting_of, greeting_state}
use Rattle.gn_shake.specs.Shaking.{shake_of}
use Rattle.gn_inbound.specs.declared.inbound.Inbound.{Inbound}
use Rattle.gn_inbound.specs.declared.inbound.Inbound.TheVariants.{Greeting, Open, Refused}

-- the frames that bytes offer in this state of their greeting: those of what comes after it, once it is whole
abbrev pub offers_at : ShakeState → Role → List ℕ → Frames
offers_at state.Done role b = frames_of (drop (length (greeting_of role)) b)
offers_at state.More role b = no_frames b None
offers_at state.Refused role b = no_frames b None

-- the frames that the bytes of a link in this role offer
abbrev pub offers : Role → List ℕ → Frames
offers role b = offers_at (greeting_state (greeting_of role) b) role b

-- an inbound stands where the bytes so far of a link in this role do: what they leave of the greeting, or of the frames after it
abbrev pub IsAt : {A : Type 0} → Role → List ℕ → Inbound A → Type 0
IsAt role b (Greeting shake) = (greeting_state (greeting_of role) b ≡ state.More) × (shake ≡ shake_of (greeting_of role) b)
IsAt role b (Open frames) = (greeting_state (greeting_of role) b ≡ state.Done) × (frames ≡ held_of (offers role b))
IsAt role b Refused = greeting_state (greeting_of role) b ≡ state.Refused

-- whether a greeting is whole
abbrev pub is_whole : ShakeState → Bool
is_whole state.Done = true
is_whole state.More = false
is_whole state.Refused = false

-- whether the greeting of a link in this role is whole with a piece after these bytes, and wasn't without it
abbrev pub opens : Role → List ℕ → List ℕ → Bool
opens role b piece =
    not (is_whole (greeting_state (greeting_of role) b)) && is_whole (greeting_state (greeting_of role) (b ++ piece))

-- a piece after these bytes: the inbound stands behind both, the descriptors are the new ones, and the fault is that of all
-- bytes, where those before had none
pub record IsGiven {A : Type 0} (role : Role) (b piece : List ℕ) (after : Inbound A) (opened : Bool) (descriptors : List Packet)
    (fault : Option FrameFault) : Type 0 where
  pub at : IsAt role (b ++ piece) after
  pub opens : opened ≡ opens role b piece
  pub new : (offers role (b ++ piece)).descriptors ≡ (offers role b).descriptors ++ descriptors
  pub ends : (offers role b).fault ≡ None → fault ≡ (offers role (b ++ piece)).fault
