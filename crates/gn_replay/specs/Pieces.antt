-- What a piece of a link's bytes does and prints.
use Rattle.std.specs.Prelude.{ℕ, Bool, true, false, if◌then◌else◌, List, [], ◌∷◌, ◌++◌, length, drop, Option, Some, None}
use Rattle.gn_wire.specs.declared.header.FrameFault.{FrameFault}
use Rattle.gn_wire.specs.Packet.{Packet}
use Rattle.gn_frames.specs.Frames.{frames_of}
use Rattle.gn_shake.specs.declared.shake.ShakeState.{ShakeState}
use Rattle.gn_shake.specs.declared.shake.ShakeState.TheVariants.{More, Done, Refused}
use Rattle.gn_shake.specs.Greeting.{greeting_state, request_text}
use Rattle.gn_rules.specs.declared.config.Config.{Config}
use Rattle.gn_rules.specs.declared.event.Event.TheVariants.{Connect, Close, Admit}
use Rattle.gn_rules.specs.declared.receipt.Step.{Step}
use Rattle.gn_rules.specs.Answer.{answer}
use Rattle.gn_text.specs.Links.{frame_fault_text, greeting_refused_text, ended_text}
use Rattle.gn_replay.specs.Events.{Played, nothing, prints, followed, happens, connection_of, is_not_live}
use Rattle.gn_replay.specs.Links.{LinkState, ended, greeting, joined}

-- what descriptors did, and whether the connection was found closed
pub record Admits (A : Type 0) : Type 0 where
  pub played : Played A
  pub closed : Bool

-- what a piece did, and the link after it
pub record Linked (A : Type 0) : Type 0 where
  pub played : Played A
  pub state : LinkState

-- descriptors are admitted in order, until one is refused since the connection isn't live: the rest is ignored
abbrev pub admits : {A : Type 0} → Config → List (Step A) → ℕ → List Packet → Admits A
admits s past c [] = record { played = nothing past; closed = false }
admits s past c (d ∷ ds) =
    let here = happens s past (Admit c d) in
    if is_not_live (answer s past (Admit c d)) then record { played = here; closed = true }
    else let later = admits s here.past c ds in record { played = followed here later.played; closed = later.closed }

-- a fault is printed, and the connection is closed
abbrev pub fault_plays : {A : Type 0} → Config → List (Step A) → ℕ → ℕ → FrameFault → Played A
fault_plays s past i c fault = followed (prints past (frame_fault_text i fault)) (happens s past (Close c))

-- after the descriptors: without a fault the link goes on with its bytes, with one it is ended
abbrev pub fault_ends : {A : Type 0} → Config → ℕ → ℕ → List ℕ → Played A → Option FrameFault → Linked A
fault_ends s i c bytes before None = record { played = before; state = joined c bytes }
fault_ends s i c bytes before (Some fault) =
    record { played = followed before (fault_plays s before.past i c fault); state = ended }

-- these descriptors and this fault come on a joined link, which has these bytes then
abbrev pub delivers_these : {A : Type 0} → Config → List (Step A) → ℕ → ℕ → List ℕ → List Packet
    → Option FrameFault → Linked A
delivers_these s past i c bytes packets fault =
    let came = admits s past c packets in
    if came.closed then record { played = came.played; state = ended } else fault_ends s i c bytes came.played fault

-- the descriptors that a piece completes: those of all bytes with it, without the ones before it
abbrev pub completed : List ℕ → List ℕ → List Packet
completed bytes piece = drop (length (frames_of bytes).descriptors) (frames_of (bytes ++ piece)).descriptors

-- a piece of a joined link, after these bytes
abbrev pub delivers : {A : Type 0} → Config → List (Step A) → ℕ → ℕ → List ℕ → List ℕ → Linked A
delivers s past i c bytes piece =
    delivers_these s past i c (bytes ++ piece) (completed bytes piece) (frames_of (bytes ++ piece)).fault

-- a link that is joined where the Connect made a connection, with no bytes yet; else ended
abbrev pub joined_to : Option ℕ → LinkState
joined_to None = ended
joined_to (Some c) = joined c []

-- a new link that needs no greeting: a Connect
abbrev pub joins : {A : Type 0} → Config → List (Step A) → Linked A
joins s past = record { played = happens s past Connect; state = joined_to (connection_of (answer s past Connect)) }

-- a new link that awaits its greeting: nothing happens yet
abbrev pub awaits : {A : Type 0} → List (Step A) → Linked A
awaits past = record { played = nothing past; state = greeting [] }

-- these bytes come on a new connection, where the Connect made one; else the link is ended and they are ignored
abbrev pub delivers_if_connected : {A : Type 0} → Config → ℕ → Played A → List ℕ → Option ℕ → Linked A
delivers_if_connected s i before piece None = record { played = before; state = ended }
delivers_if_connected s i before piece (Some c) =
    let later = delivers s before.past i c [] piece in
    record { played = followed before later.played; state = later.state }

-- a Connect, and these bytes after it
abbrev pub connects : {A : Type 0} → Config → List (Step A) → ℕ → List ℕ → Linked A
connects s past i piece =
    delivers_if_connected s i (happens s past Connect) piece (connection_of (answer s past Connect))

-- a link that awaits its greeting, with all bytes so far, by the state of its greeting
abbrev pub greets : {A : Type 0} → Config → List (Step A) → ℕ → List ℕ → ShakeState → Linked A
greets s past i bytes More = record { played = nothing past; state = greeting bytes }
greets s past i bytes Refused = record { played = prints past (greeting_refused_text i); state = ended }
greets s past i bytes Done = connects s past i (drop (length request_text) bytes)

-- a piece of link i, as the link stands
abbrev pub feeds_link : {A : Type 0} → Config → List (Step A) → ℕ → List ℕ → LinkState → Linked A
feeds_link s past i piece ended = record { played = prints past (ended_text i); state = ended }
feeds_link s past i piece (greeting bytes) =
    greets s past i (bytes ++ piece) (greeting_state request_text (bytes ++ piece))
feeds_link s past i piece (joined c bytes) = delivers s past i c bytes piece
