-- The descriptors of a link's bytes, after its greeting; and what the end of a reader says of its events, of the bytes that it
-- read, and of its link.
use Rattle.std.specs.Prelude.{◌≡◌, ◌<◌, ◌⊎◌, ℕ, Bool, true, false, List, [], ◌∷◌, ◌++◌, drop, length, map, take, Option, Some, None, ⊤}
use Rattle.gn_rules.specs.declared.event.Event.{Event}
use Rattle.gn_rules.specs.declared.event.Event.TheVariants.{Admit, Connect, Close}
use Rattle.gn_frames.specs.Frames.{Frames, frames_of}
use Rattle.gn_shake.specs.declared.role.Role.{Role}
use Rattle.gn_shake.specs.declared.shake.ShakeState.TheVariants.{More, Done, Refused}
use Rattle.gn_shake.specs.Greeting.{greeting_state, greeting_of}
use Rattle.gn_links.specs.Halves.{ReadHalf}
use Rattle.gn_wire.specs.Packet.{Packet}
use Rattle.gn_rules.specs.declared.receipt.Receipt.{Receipt}
use Rattle.gn_rules.specs.declared.reply.Reply.TheVariants as reply
use Rattle.gn_hub.specs.ActorState.{ActorState, receipt}
use Rattle.gn_hub.specs.Receipts.{HasClosed}
use Rattle.gn_bodies.specs.Events.{connection_of, link_events_in}
use Rattle.gn_bodies.specs.declared.ends.ReaderEnd.{ReaderEnd}
use Rattle.gn_bodies.specs.declared.ends.ReaderEnd.TheVariants.{Bytes, Fault, ReadFailed, Turns, GreetingRefused, GreetingCut, TooMany, NotLive}

-- the events are those of `before`, maybe with a Close of c after them
abbrev pub WithClose : {A : Type 0} → ℕ → List (Event A) → List (Event A) → Type 0
WithClose c es before = (es ≡ before) ⊎ (es ≡ before ++ Close c ∷ [])

-- the table of ends for a reader that connected as c: what its end says of its events except the routes, and of the frames of
-- the bytes that it read after the greeting
abbrev pub ConnectedRow : {A : Type 0} → ReaderEnd → ℕ → List (Event A) → Frames → Type 0
-- the bytes have no fault; it connected, and admitted each descriptor, in order
ConnectedRow Bytes c es frames = (frames.fault ≡ None) × (es ≡ Connect ∷ map (Admit c) frames.descriptors)
-- they end with this fault; it admitted each descriptor before it, and may have closed the connection
ConnectedRow (Fault f) c es frames = (frames.fault ≡ Some f) × WithClose c es (Connect ∷ map (Admit c) frames.descriptors)
-- it admitted each descriptor that was whole, and may have closed the connection; so where it ended by Turns
ConnectedRow ReadFailed c es frames = WithClose c es (Connect ∷ map (Admit c) frames.descriptors)
ConnectedRow Turns c es frames = WithClose c es (Connect ∷ map (Admit c) frames.descriptors)
-- it admitted the first n of the descriptors, and not the next
ConnectedRow NotLive c es frames =
    (n : ℕ) × (n < length frames.descriptors) × (es ≡ Connect ∷ map (Admit c) (take n frames.descriptors))
ConnectedRow end c es frames = ⊥

-- the table of ends for a reader: what its end says of the connection, of the events except the routes, and of the bytes that were
-- read. A reader connects only where the greeting is whole; without a connection it made no event, but at TooMany one Connect
abbrev pub ReaderRow : {A : Type 0} → Role → ReaderEnd → Option ℕ → List (Event A) → List ℕ → Type 0
ReaderRow role end (Some c) es b =
    (greeting_state (greeting_of role) b ≡ Done) × ConnectedRow end c es (frames_of (drop (length (greeting_of role)) b))
ReaderRow role ReadFailed None es b = (greeting_state (greeting_of role) b ≡ More) × (es ≡ [])
ReaderRow role Turns None es b = (greeting_state (greeting_of role) b ≡ More) × (es ≡ [])
ReaderRow role GreetingRefused None es b = (greeting_state (greeting_of role) b ≡ Refused) × (es ≡ [])
ReaderRow role GreetingCut None es b = (greeting_state (greeting_of role) b ≡ More) × (es ≡ [])
ReaderRow role TooMany None es b = (greeting_state (greeting_of role) b ≡ Done) × (es ≡ Connect ∷ [])
ReaderRow role end None es b = ⊥

-- whether a connected reader closes its connection at this end
abbrev pub closes : ReaderEnd → Bool
closes (Fault f) = true
closes ReadFailed = true
closes Turns = true
closes end = false

-- whether a connected reader may end so
abbrev pub is_joined_end : ReaderEnd → Bool
is_joined_end Bytes = true
is_joined_end (Fault f) = true
is_joined_end ReadFailed = true
is_joined_end Turns = true
is_joined_end NotLive = true
is_joined_end end = false

-- whether a reader may end so that made no event
abbrev pub is_idle_end : ReaderEnd → Bool
is_idle_end ReadFailed = true
is_idle_end Turns = true
is_idle_end GreetingRefused = true
is_idle_end GreetingCut = true
is_idle_end end = false

-- what a reader did that has no connection: no event, but at TooMany one Connect, with that reply
abbrev pub AloneDid : {A : Type 0} → ReaderEnd → List (Receipt A) → Type 0
AloneDid TooMany own = (index : ℕ) × (own ≡ receipt index Connect reply.TooMany ∷ [])
AloneDid end own = (is_idle_end end ≡ true) × (own ≡ [])

-- the events are those of `before`, and where it may close, maybe a Close of c after them
abbrev pub ClosesMaybe : {A : Type 0} → Bool → ℕ → List (Event A) → List (Event A) → Type 0
ClosesMaybe true c es before = WithClose c es before
ClosesMaybe false c es before = es ≡ before

-- what the end of a reader says of its receipts, whatever its bytes were: it connected as c, admitted descriptors on c, in any number,
-- and closed c where its end may close it, and made no other event but Routes; or it has no connection
abbrev pub ReaderDid : {A : Type 0} → ReaderEnd → Option ℕ → List (Receipt A) → Type 0
ReaderDid end (Some c) own =
    (is_joined_end end ≡ true)
    × (descriptors : List Packet) × ClosesMaybe (closes end) c (link_events_in own) (Connect ∷ map (Admit c) descriptors)
ReaderDid end None own = AloneDid end own

-- where a connected reader ends so, the last that it did is that it closed its connection; or that was found closed, as this
-- says
abbrev pub HasClosedAt : {A : Type 0} → ReaderEnd → Option ℕ → ActorState A → Type 0
HasClosedAt {A} end found me =
    closes end ≡ true → (c : ℕ) → connection_of me ≡ Some c → (before : ActorState A) × HasClosed c found before me

-- what the end says of the half: at Bytes that it ended, at ReadFailed that a read failed, at Turns that as many reads gave bytes as
-- may, `turns`
abbrev pub SourceRow : ℕ → ReaderEnd → ReadHalf → Type 0
SourceRow turns Bytes half = half.has_ended ≡ true
SourceRow turns GreetingCut half = half.has_ended ≡ true
SourceRow turns ReadFailed half = 0 < half.failures
SourceRow turns Turns half = half.pieces ≡ turns
SourceRow turns end half = ⊤
