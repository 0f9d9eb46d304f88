-- What a reader keeps of its link, piece by piece.
use Rattle.std.specs.Prelude.{◌≡◌, ◌<◌, ℕ, Bool, true, false, List, [], ◌∷◌, ◌++◌, drop, length, map, take, Option, Some, None, Result, Ok, Err, ⊤}
use Rattle.gn_rules.specs.declared.event.Event.{Event}
use Rattle.gn_rules.specs.declared.event.Event.TheVariants.{Admit, Connect}
use Rattle.gn_rules.specs.declared.receipt.Receipt.{Receipt}
use Rattle.gn_wire.specs.Packet.{Packet}
use Rattle.gn_wire.specs.declared.header.FrameFault.{FrameFault}
use Rattle.gn_frames.specs.Frames.{Frames, frames_of}
use Rattle.gn_frames.specs.Reassembly.{held_of}
use Rattle.gn_shake.specs.declared.role.Role.{Role}
use Rattle.gn_shake.specs.declared.shake.ShakeState.TheVariants.{More, Done}
use Rattle.gn_shake.specs.Greeting.{greeting_state, greeting_of}
use Rattle.gn_shake.specs.Shaking.{shake_of}
use Rattle.gn_links.specs.Halves.{ReadHalf}
use Rattle.gn_hub.specs.ActorState.{ActorState}
use Rattle.gn_bodies.specs.declared.ends.BodyFault.{BodyFault}
use Rattle.gn_bodies.specs.declared.ends.ReaderEnd.{ReaderEnd}
use Rattle.gn_bodies.specs.declared.ends.ReaderEnd.TheVariants.{Bytes, Fault, ReadFailed, Turns, GreetingCut, NotLive}
use Rattle.gn_bodies.specs.declared.piece.Halt.{Halt}
use Rattle.gn_bodies.specs.declared.piece.Halt.TheVariants as halt
use Rattle.gn_bodies.specs.declared.piece.Piece.{Piece}
use Rattle.gn_bodies.specs.declared.piece.Piece.TheVariants as piece
use Rattle.gn_bodies.specs.declared.piece.Reading.{Reading}
use Rattle.gn_bodies.specs.declared.piece.Reading.TheVariants as reading
use Rattle.gn_bodies.specs.Admitting.{Admitting, HasSameNumbers, StaysSettled}
use Rattle.gn_bodies.specs.Events.{events_of, link_events, link_events_in, connection_of}
use Rattle.gn_bodies.specs.ReaderRows.{AloneDid, ReaderRow, SourceRow, is_joined_end}

-- a reader that connected as c: its row, before it closes what it closes
abbrev pub OpenRow : {A : Type 0} → ReaderEnd → ℕ → List (Event A) → Frames → Type 0
OpenRow Bytes c es frames = (frames.fault ≡ None) × (es ≡ Connect ∷ map (Admit c) frames.descriptors)
OpenRow (Fault f) c es frames = (frames.fault ≡ Some f) × (es ≡ Connect ∷ map (Admit c) frames.descriptors)
OpenRow ReadFailed c es frames = es ≡ Connect ∷ map (Admit c) frames.descriptors
OpenRow Turns c es frames = es ≡ Connect ∷ map (Admit c) frames.descriptors
OpenRow NotLive c es frames =
    (n : ℕ) × (n < length frames.descriptors) × (es ≡ Connect ∷ map (Admit c) (take n frames.descriptors))
OpenRow end c es frames = ⊥

-- a reader's row, before it closes what it closes
abbrev pub ReadRow : {A : Type 0} → Role → ReaderEnd → Option ℕ → List (Event A) → List ℕ → Type 0
ReadRow role end (Some c) es b =
    (greeting_state (greeting_of role) b ≡ Done) × OpenRow end c es (frames_of (drop (length (greeting_of role)) b))
ReadRow role end None es b = ReaderRow role end None es b

-- these are receipts of a Connect and of Admits on c, and of Routes
abbrev pub IsOffered : {A : Type 0} → ℕ → List (Receipt A) → Type 0
IsOffered c own = (descriptors : List Packet) × (link_events_in own ≡ Connect ∷ map (Admit c) descriptors)

-- what a reader did, whatever its bytes were, before it closes what it closes
abbrev pub OpenDid : {A : Type 0} → ReaderEnd → Option ℕ → List (Receipt A) → Type 0
OpenDid end (Some c) own = (is_joined_end end ≡ true) × IsOffered c own
OpenDid end None own = AloneDid end own

-- a reader's connection is c, on which it admitted descriptors
pub record IsOpen {A : Type 0} (c : ℕ) (me : ActorState A) : Type 0 where
  pub connection : connection_of me ≡ Some c
  pub offered : IsOffered c me.receipts

-- a reader that connected as c has admitted all that its bytes after the greeting offer, and they have no fault
pub record IsOffering {A : Type 0} (s : List ℕ) (c : ℕ) (frames : Option (List ℕ)) (me : ActorState A) : Type 0 where
  pub held : frames ≡ held_of (frames_of s)
  pub clean : (frames_of s).fault ≡ None
  pub events : link_events me ≡ Connect ∷ map (Admit c) (frames_of s).descriptors

-- the bytes of a joined link are its greeting and what came after it, all of which is offered
pub record IsJoined {A : Type 0} (role : Role) (b : List ℕ) (c : ℕ) (frames : Option (List ℕ)) (me : ActorState A) : Type 0 where
  pub stream : List ℕ
  pub whole : b ≡ greeting_of role ++ stream
  pub offering : IsOffering stream c frames me

-- what a reader keeps is what its bytes so far leave of it
abbrev pub IsReading : {A : Type 0} → Role → Reading A → List ℕ → ActorState A → Type 0
IsReading role (reading.Greeting shake) b me =
    (shake ≡ shake_of (greeting_of role) b) × (greeting_state (greeting_of role) b ≡ More)
IsReading role (reading.Joined c frames) b me = IsJoined role b c frames me

-- the connection of a reader
abbrev pub reading_connection : {A : Type 0} → Reading A → Option ℕ
reading_connection (reading.Greeting shake) = None
reading_connection (reading.Joined c frames) = Some c

-- what a reader's end says before it closes what it closes: of its connection and its receipts, of the half that was read, and
-- that a read of the link may fail
pub record EndsReading {A : Type 0} (turns : ℕ) (role : Role) (end : ReaderEnd) (made : Option ℕ) (me : ActorState A) (half : ReadHalf)
    (may_fail : Bool) : Type 0 where
  pub connection : connection_of me ≡ made
  pub did : OpenDid end made me.receipts
  pub alone : made ≡ None → events_of me ≡ link_events me
  pub row : half.is_known ≡ true → ReadRow role end made (link_events me) half.bytes
  pub counts : SourceRow turns end half
  pub failed : end ≡ ReadFailed → may_fail ≡ true

-- how a reader ends where its bytes do
abbrev pub end_of_bytes : {A : Type 0} → Reading A → ReaderEnd
end_of_bytes (reading.Greeting shake) = GreetingCut
end_of_bytes (reading.Joined c frames) = Bytes

-- a reader that awaits the greeting has no receipts; a joined one has its connection, on which it admitted descriptors
abbrev pub HasConnection : {A : Type 0} → Reading A → ActorState A → Type 0
HasConnection (reading.Greeting shake) me = me.receipts ≡ []
HasConnection (reading.Joined c frames) me = IsOpen c me

-- what a piece of a connected link did, by what its reassembler keeps, how its descriptors were admitted, and the fault that
-- comes after them
abbrev pub piece_of : {A : Type 0} → ℕ → Option (List ℕ) → Result (Unit {0}) Halt → Option FrameFault → Piece A
piece_of c frames (Ok u) None = piece.More (reading.Joined c frames)
piece_of c frames (Ok u) (Some f) = piece.End (Some c) (Fault f)
piece_of c frames (Err halt.NotLive) fault = piece.End (Some c) NotLive
piece_of c frames (Err (halt.Stop f)) fault = piece.Stop f

-- what a piece leaves of the connection and of the receipts
abbrev pub HasConnectionAfter : {A : Type 0} → Piece A → ActorState A → Type 0
HasConnectionAfter (piece.More r) me = HasConnection r me
HasConnectionAfter (piece.End made end) me = (connection_of me ≡ made) × OpenDid end made me.receipts
HasConnectionAfter (piece.Stop f) me = ⊤

-- where a piece ends a reader that didn't connect, it routed nothing
abbrev pub RoutesNoneAlone : {A : Type 0} → Piece A → ActorState A → Type 0
RoutesNoneAlone (piece.More r) me = ⊤
RoutesNoneAlone (piece.End made end) me = made ≡ None → events_of me ≡ link_events me
RoutesNoneAlone (piece.Stop f) me = ⊤

-- whether an end is one that bytes bring
abbrev pub is_of_bytes : ReaderEnd → Bool
is_of_bytes Bytes = false
is_of_bytes GreetingCut = false
is_of_bytes ReadFailed = false
is_of_bytes Turns = false
is_of_bytes end = true

-- where a piece brings an end, it is one that bytes bring
abbrev pub EndsByBytes : {A : Type 0} → Piece A → Type 0
EndsByBytes (piece.More r) = ⊤
EndsByBytes (piece.End made end) = is_of_bytes end ≡ true
EndsByBytes (piece.Stop f) = ⊤

-- what a piece did to a reader: its actor and its intake are those of before, and what was settled stays settled; it has its
-- connection; where the piece ends it, bytes brought the end, and it routed nothing where it didn't connect
pub record HasTakenPiece {A : Type 0} (piece : Piece A) (before after : Admitting A) : Type 0 where
  pub numbers : HasSameNumbers before after
  pub settled : StaysSettled before after
  pub connection : HasConnectionAfter piece after.actor
  pub ends : EndsByBytes piece
  pub alone : RoutesNoneAlone piece after.actor

-- what a piece did, with the bytes so far
abbrev pub IsTaken : {A : Type 0} → Role → Piece A → List ℕ → ActorState A → Type 0
IsTaken role (piece.More r) b me = IsReading role r b me
IsTaken role (piece.End made end) b me = ReadRow role end made (link_events me) b
IsTaken role (piece.Stop f) b me = ⊤

-- a reader that goes on after so many pieces: it has its connection, it keeps what its bytes leave of it, where they are
-- known, and no read failed
pub record HasReadOn {A : Type 0} (role : Role) (r : Reading A) (me : ActorState A) (half : ReadHalf) (count : ℕ) : Type 0 where
  pub has : HasConnection r me
  pub is : half.is_known ≡ true → IsReading role r half.bytes me
  pub pieces : half.pieces ≡ count
  pub unfailed : half.failures ≡ 0

-- what so many pieces did, of a link of which a read may fail or not
abbrev pub HasReadPieces : {A : Type 0} → ℕ → Role → Piece A → ActorState A → ReadHalf → Bool → ℕ → Type 0
HasReadPieces turns role (piece.More r) me half may_fail count = HasReadOn role r me half count
HasReadPieces turns role (piece.End made end) me half may_fail count = EndsReading turns role end made me half may_fail
HasReadPieces turns role (piece.Stop f) me half may_fail count = ⊤

-- how a reader ends that reads no more after a piece: as the piece ended it, or because its turns are over
abbrev pub end_of_turns : {A : Type 0} → Piece A → Result (Option ℕ × ReaderEnd) BodyFault
end_of_turns (piece.More r) = Ok (reading_connection r, Turns)
end_of_turns (piece.End made end) = Ok (made, end)
end_of_turns (piece.Stop f) = Err f
