-- A reader's bytes so far.
use Rattle.std.proofs.Common.{◌≡◌, ℕ, ◌<◌, All, Bool, true, false, List, [], ◌∷◌, ◌++◌, length, map, take, drop, Option, Some, None, refl, sym, ap, ◌∙◌, subst, append_assoc}
use Rattle.std.proofs.lemmas.List.{drop_at}
use Rattle.std.proofs.lemmas.List.Elements.{All-nil}
use Rattle.gn_wire.specs.declared.header.FrameFault.{FrameFault}
use Rattle.gn_frames.specs.Frames.{Frames, frames_of}
use Rattle.gn_rules.specs.declared.event.Event.TheVariants.{Admit, Connect}
use Rattle.gn_shake.specs.declared.shake.ShakeState.{ShakeState}
use Rattle.gn_shake.specs.declared.shake.ShakeState.TheVariants.{More, Done}
use Rattle.gn_shake.specs.Greeting.{GreetingIsKnown, greeting_state, greeting_of}
use Rattle.gn_shake.specs.Shaking.{Shaking, answer_of, fed, used_of, shake_of, PiecesAreOneStream}
use Rattle.std.specs.Prelude.{IfOk, Result}
use Rattle.gn_rules.specs.declared.event.Event.{Event}
use Rattle.gn_rules.specs.declared.receipt.Receipt.{Receipt}
use Rattle.gn_bodies.specs.declared.ends.BodyFault.{BodyFault}
use Rattle.gn_bodies.specs.Admitting.{Admitting, HasOnlyConnected}
use Rattle.gn_bodies.specs.Done.{Half, IsReaderDone, ReaderKeeps}
use Rattle.gn_bodies.specs.declared.ends.ReaderEnd.{ReaderEnd}
use Rattle.gn_bodies.specs.declared.ends.ReaderEnd.TheVariants.{Bytes, Fault, ReadFailed, Turns, GreetingCut, NotLive}
use Rattle.gn_shake.specs.declared.role.Role.{Role}
use Rattle.gn_bodies.specs.declared.piece.Piece.{Piece}
use Rattle.gn_bodies.specs.declared.piece.Piece.TheVariants as piece
use Rattle.gn_bodies.specs.declared.piece.Reading.{Reading}
use Rattle.gn_bodies.specs.declared.piece.Reading.TheVariants as reading
use Rattle.gn_hub.specs.ActorState.{ActorState}
use Rattle.gn_bodies.specs.Events.{events_of, link_events, link_events_in, connection_of}
use Rattle.gn_links.specs.Halves.{Source, IsNewReader, IsReadFrom, ReadHalf}
use Rattle.gn_bodies.specs.ReaderRows.{ClosesMaybe, ConnectedRow, ReaderDid, ReaderRow, SourceRow, WithClose, closes, is_joined_end}
use Rattle.gn_bodies.specs.Reading.{EndsReading, OpenDid, HasConnection, HasReadOn, HasReadPieces, HasTakenPiece, IsJoined, IsOffered, IsOffering, IsReading, IsTaken, ReadRow, OpenRow, reading_connection, end_of_bytes, end_of_turns, is_of_bytes}
use Rattle.gn_bodies.proofs.JobLemmas.{connected_settled, kept_settled}

-- a stream that begins with the greeting has it accepted
pub accepted : GreetingIsKnown → (role : Role) (b s : List ℕ) → b ≡ greeting_of role ++ s → greeting_state (greeting_of role) b ≡ Done
accepted known role b s whole = sym ((known (greeting_of role) b Done).0 (s, whole))

-- the frames after the greeting
abbrev pub frames_after : Role → List ℕ → Frames
frames_after role b = frames_of (drop (length (greeting_of role)) b)

pub after_greeting : (role : Role) (b s : List ℕ) → b ≡ greeting_of role ++ s → frames_after role b ≡ frames_of s
after_greeting role b s whole =
    let g = greeting_of role in
    ap frames_of (ap (drop (length g)) whole ∙ drop_at g s (length g) refl)

-- a joined link goes on
pub whole_more : (role : Role) (b s piece : List ℕ) → b ≡ greeting_of role ++ s → b ++ piece ≡ greeting_of role ++ (s ++ piece)
whole_more role b s piece whole = ap (λ w. w ++ piece) whole ∙ append_assoc (greeting_of role) s piece

pub fault_row : {A : Type 0} → GreetingIsKnown → (role : Role) (b s : List ℕ) (c : ℕ) (f : FrameFault) (me : ActorState A) → b ≡ greeting_of role ++ s
    → (frames_of s).fault ≡ Some f → link_events me ≡ Connect ∷ map (Admit c) (frames_of s).descriptors → ReadRow role (Fault f) (Some c) (link_events me) b
fault_row known role b s c f me whole ends events =
    let is = after_greeting role b s whole in
    let all = ap (λ (w : Frames). Connect ∷ map (Admit c) w.descriptors) (sym is) in
    (accepted known role b s whole, (ap (λ (w : Frames). w.fault) is ∙ ends, events ∙ all))

pub not_live_row : {A : Type 0} → GreetingIsKnown → (role : Role) (b s : List ℕ) (c : ℕ) (me : ActorState A) → b ≡ greeting_of role ++ s
    → ((n : ℕ) × (n < length (frames_of s).descriptors) × (link_events me ≡ Connect ∷ map (Admit c) (take n (frames_of s).descriptors))) → ReadRow role NotLive (Some c) (link_events me) b
not_live_row known role b s c me whole part =
    let row = subst (λ (w : Frames). (n : ℕ) × (n < length w.descriptors) × (link_events me ≡ Connect ∷ map (Admit c) (take n w.descriptors))) (sym (after_greeting role b s whole)) part in
    (accepted known role b s whole, row)

-- a link that just connected
pub just_joined : {A : Type 0} (c : ℕ) (frames : Option (List ℕ)) (me : ActorState A) → frames ≡ Some [] → link_events me ≡ Connect ∷ [] → IsOffering [] c frames me
unfolding frames_of
just_joined c frames me none events = record { held = none; clean = refl; events = events }

-- a piece of a greeting was answered with the state of all bytes so far
pub record IsGreeted (g b piece : List ℕ) (after : Shaking) (state : ShakeState) : Type 0 where
  pub state_is : greeting_state g (b ++ piece) ≡ state
  pub kept : after ≡ shake_of g (b ++ piece)

pub greeted : (g b piece : List ℕ) (before after : Shaking) (state : ShakeState) → PiecesAreOneStream → before ≡ shake_of g b
    → state ≡ answer_of before piece → after ≡ fed before piece → IsGreeted g b piece after state
greeted g b piece before after state one start answered then_kept =
    record {
      state_is = sym (one g b piece).state ∙ ap (λ (k : Shaking). answer_of k piece) (sym start) ∙ sym answered;
      kept = then_kept ∙ ap (λ (k : Shaking). fed k piece) start ∙ (one g b piece).after;
    }

-- the bytes after a greeting that is done
pub rest_after : (g b piece rest : List ℕ) (used : ℕ) (before : Shaking) → PiecesAreOneStream → GreetingIsKnown → before ≡ shake_of g b → greeting_state g b ≡ More
    → greeting_state g (b ++ piece) ≡ Done → used ≡ used_of before piece → rest ≡ drop used piece → b ++ piece ≡ g ++ rest
rest_after g b piece rest used before one known start more done used_is rest_is =
    let (s, whole) = (known g (b ++ piece) Done).1 (sym done) in
    let here : rest ≡ drop (length g) (b ++ piece) =
    rest_is ∙ ap (λ (n : ℕ). drop n piece) (used_is ∙ ap (λ (k : Shaking). used_of k piece) start) ∙ (one g b piece).rest more done in
    whole ∙ ap (λ w. g ++ w) (sym (here ∙ ap (drop (length g)) whole ∙ drop_at g s (length g) refl))

-- a reader that stops reading
pub none_done : {A : Type 0} (me : ActorState A) → me.receipts ≡ [] → link_events me ≡ []
none_done me none = ap link_events_in none

pub failed_row : {A : Type 0} → GreetingIsKnown → (role : Role) (r : Reading A) (b : List ℕ) (me : ActorState A) → IsReading role r b me → HasConnection r me
    → ReadRow role ReadFailed (reading_connection r) (link_events me) b
failed_row known role (reading.Greeting shake) b me (kept, more) has = (more, none_done me has)
failed_row known role (reading.Joined c frames) b me is has =
    (accepted known role b is.stream is.whole, is.offering.events ∙ ap (λ (w : Frames). Connect ∷ map (Admit c) w.descriptors) (sym (after_greeting role b is.stream is.whole)))

pub turns_row : {A : Type 0} → GreetingIsKnown → (role : Role) (r : Reading A) (b : List ℕ) (me : ActorState A) → IsReading role r b me → HasConnection r me
    → ReadRow role Turns (reading_connection r) (link_events me) b
turns_row known role (reading.Greeting shake) b me (kept, more) has = (more, none_done me has)
turns_row known role (reading.Joined c frames) b me is has =
    (accepted known role b is.stream is.whole, is.offering.events ∙ ap (λ (w : Frames). Connect ∷ map (Admit c) w.descriptors) (sym (after_greeting role b is.stream is.whole)))

pub ended_row : {A : Type 0} → GreetingIsKnown → (role : Role) (r : Reading A) (b : List ℕ) (me : ActorState A) → IsReading role r b me → HasConnection r me
    → ReadRow role (end_of_bytes r) (reading_connection r) (link_events me) b
ended_row known role (reading.Greeting shake) b me (kept, more) has = (more, none_done me has)
ended_row known role (reading.Joined c frames) b me is has =
    let same = after_greeting role b is.stream is.whole in
    let all = ap (λ (w : Frames). Connect ∷ map (Admit c) w.descriptors) (sym same) in
    (accepted known role b is.stream is.whole, (ap (λ (w : Frames). w.fault) same ∙ is.offering.clean, is.offering.events ∙ all))

pub conn_of_reading : {A : Type 0} (r : Reading A) (me : ActorState A) → HasConnection r me → connection_of me ≡ reading_connection r
conn_of_reading (reading.Greeting shake) me none = ap (λ w. connection_of (record { number = me.number; receipts = w })) none
conn_of_reading (reading.Joined c frames) me is = is.connection

-- a reader that has no connection routed nothing
pub alone_of_reading : {A : Type 0} (r : Reading A) (me : ActorState A) → HasConnection r me → reading_connection r ≡ None → events_of me ≡ link_events me
alone_of_reading {A} (reading.Greeting shake) me none is = ap (λ w. map (λ (x : Receipt A). x.event) w) none ∙ sym (none_done me none)
alone_of_reading (reading.Joined c frames) me has is = absurd (cc)

-- what a reader did that stops reading
pub failed_did : {A : Type 0} (r : Reading A) (me : ActorState A) → HasConnection r me → OpenDid ReadFailed (reading_connection r) me.receipts
failed_did (reading.Greeting shake) me none = (refl, none)
failed_did (reading.Joined c frames) me is = (refl, is.offered)

pub turns_did : {A : Type 0} (r : Reading A) (me : ActorState A) → HasConnection r me → OpenDid Turns (reading_connection r) me.receipts
turns_did (reading.Greeting shake) me none = (refl, none)
turns_did (reading.Joined c frames) me is = (refl, is.offered)

pub ended_did : {A : Type 0} (r : Reading A) (me : ActorState A) → HasConnection r me → OpenDid (end_of_bytes r) (reading_connection r) me.receipts
ended_did (reading.Greeting shake) me none = (refl, none)
ended_did (reading.Joined c frames) me is = (refl, is.offered)

-- what it did once it has closed what it closes at this end
pub unconnected_did : {A : Type 0} (end : ReaderEnd) (made : Option ℕ) (own : List (Receipt A)) → made ≡ None → OpenDid end made own → ReaderDid end made own
unconnected_did end None own is did = did
unconnected_did end (Some c) own is did = absurd (cc)

pub closed_did : {A : Type 0} (end : ReaderEnd) (made : Option ℕ) (c : ℕ) (own before : List (Receipt A)) → made ≡ Some c → closes end ≡ true
    → WithClose c (link_events_in own) (link_events_in before) → OpenDid end made before → ReaderDid end made own
closed_did {A} end made c own before is may closed did =
    let here : (is_joined_end end ≡ true) × IsOffered c before = subst (λ (o : Option ℕ). OpenDid end o before) is did in
    let more : WithClose c (link_events_in own) (Connect ∷ map (Admit c) here.1.0) = subst (λ (w : List (Event A)). WithClose c (link_events_in own) w) here.1.1 closed in
    let all : ClosesMaybe (closes end) c (link_events_in own) (Connect ∷ map (Admit c) here.1.0) = subst (λ b. ClosesMaybe b c (link_events_in own) (Connect ∷ map (Admit c) here.1.0)) (sym may) more in
    subst (λ (o : Option ℕ). ReaderDid end o own) (sym is) (here.0, here.1.0, all)

pub kept_did : {A : Type 0} (end : ReaderEnd) (made : Option ℕ) (c : ℕ) (own : List (Receipt A)) → made ≡ Some c → closes end ≡ false → OpenDid end made own → ReaderDid end made own
kept_did {A} end made c own is keeps did =
    let here : (is_joined_end end ≡ true) × IsOffered c own = subst (λ (o : Option ℕ). OpenDid end o own) is did in
    let all : ClosesMaybe (closes end) c (link_events_in own) (Connect ∷ map (Admit c) here.1.0) = subst (λ b. ClosesMaybe b c (link_events_in own) (Connect ∷ map (Admit c) here.1.0)) (sym keeps) here.1.1 in
    subst (λ (o : Option ℕ). ReaderDid end o own) (sym is) (here.0, here.1.0, all)

-- an end that bytes bring says nothing of the half
pub bytes_source : (turns : ℕ) (end : ReaderEnd) (half : ReadHalf) → is_of_bytes end ≡ true → SourceRow turns end half
bytes_source turns Bytes half is = absurd (cc)
bytes_source turns ReadFailed half is = absurd (cc)
bytes_source turns Turns half is = absurd (cc)
bytes_source turns GreetingCut half is = absurd (cc)
bytes_source turns end half is = tt

-- nor that a read failed
pub bytes_not_failed : {X : Type 0} (end : ReaderEnd) → is_of_bytes end ≡ true → end ≡ ReadFailed → X
bytes_not_failed end is failed = let no : is_of_bytes ReadFailed ≡ true = subst (λ e. is_of_bytes e ≡ true) failed is in absurd (cc)

-- where the bytes end no read failed
pub end_not_failed : {A X : Type 0} (r : Reading A) (end : ReaderEnd) → end ≡ end_of_bytes r → end ≡ ReadFailed → X
end_not_failed (reading.Greeting shake) end is failed = let no : GreetingCut ≡ ReadFailed = sym is ∙ failed in absurd (cc)
end_not_failed (reading.Joined c frames) end is failed = let no : Bytes ≡ ReadFailed = sym is ∙ failed in absurd (cc)

-- a reader that closed, or closed nothing
pub closed_row : {A : Type 0} (end : ReaderEnd) (c : ℕ) (es before : List (Event A)) (frames : Frames) → closes end ≡ true → OpenRow end c before frames → WithClose c es before
    → ConnectedRow end c es frames
closed_row {A} (Fault f) c es before frames is row more = (row.0, subst (λ (w : List (Event A)). WithClose c es w) row.1 more)
closed_row {A} ReadFailed c es before frames is row more = subst (λ (w : List (Event A)). WithClose c es w) row more
closed_row {A} Turns c es before frames is row more = subst (λ (w : List (Event A)). WithClose c es w) row more
closed_row end c es before frames is row more = absurd (cc)

pub open_row : {A : Type 0} (end : ReaderEnd) (c : ℕ) (es : List (Event A)) (frames : Frames) → closes end ≡ false → OpenRow end c es frames → ConnectedRow end c es frames
open_row Bytes c es frames is row = row
open_row NotLive c es frames is row = row
open_row (Fault f) c es frames is row = absurd (cc)
open_row ReadFailed c es frames is row = absurd (cc)
open_row Turns c es frames is row = absurd (cc)
open_row end c es frames is row = absurd row

-- of a new reader nothing was read
pub nothing_read : (source : Source) (half : ReadHalf) → IsNewReader half → IsReadFrom source half
nothing_read source half new =
    λ _. let goes = new.goes_on in
    record {
      octets = subst (λ b. All (λ n. n < 256) b) (sym new.none) (All-nil (λ n. n < 256));
      rest = source.bytes;
      whole = ap (λ b. b ++ source.bytes) (sym new.none);
      ended = λ e. absurd (cc);
    }

-- what a reader's row is once it has closed what it closes at this end: nothing where it has no connection
pub unconnected_row : {A : Type 0} (role : Role) (end : ReaderEnd) (made : Option ℕ) (es : List (Event A)) (b : List ℕ) → made ≡ None → ReadRow role end made es b → ReaderRow role end made es b
unconnected_row role end None es b is row = row
unconnected_row role end (Some c) es b is row = absurd (cc)

pub connected_row : {A : Type 0} (role : Role) (end : ReaderEnd) (made : Option ℕ) (c : ℕ) (es before : List (Event A)) (b : List ℕ) → made ≡ Some c
    → (OpenRow end c before (frames_after role b) → ConnectedRow end c es (frames_after role b)) → ReadRow role end made before b → ReaderRow role end made es b
connected_row {A} role end made c es before b is closes row =
    let here : (greeting_state (greeting_of role) b ≡ Done) × OpenRow end c before (frames_after role b) = subst (λ (o : Option ℕ). ReadRow role end o before b) is row in
    subst (λ (o : Option ℕ). ReaderRow role end o es b) (sym is) (here.0, closes here.1)

-- a half that was finished is done as it was
pub finished_done : {A Rd O : Type 0} (state : Rd → ReadHalf) (made_of : Rd → O) (gives : O → Source) (turns : ℕ) (link : Half Rd) (conn : Option ℕ) (receipts : List (Receipt A)) (before after : Rd) (end : Result ReaderEnd BodyFault)
    → made_of after ≡ made_of before → state after ≡ state before
    → IsReaderDone state made_of gives turns link (record { conn = conn; receipts = receipts; half = before; end = end }) → IsReaderDone state made_of gives turns link (record { conn = conn; receipts = receipts; half = after; end = end })
finished_done {A} state made_of gives turns link conn receipts before after end made same was =
    record {
      kept = subst (λ (h : ReadHalf). ReaderKeeps {A = A} turns link.role (record { conn = conn; receipts = receipts; half = h; end = end })) (sym same) was.kept;
      alone = was.alone;
      made = made ∙ was.made;
      own = subst (λ (h : ReadHalf). IsReadFrom (gives (made_of link.half)) h) (sym same) was.own;
      failed = was.failed;
    }

-- a reader that awaits the greeting, or is joined, reads as one
pub read_greeting : {A : Type 0} (role : Role) (r : Reading A) (shake : Shaking) (b : List ℕ) (me : ActorState A) → r ≡ reading.Greeting shake → IsReading role r b me
    → IsReading {A = A} role (reading.Greeting shake) b me
read_greeting {A} role r shake b me is was = subst (λ (q : Reading A). IsReading role q b me) is was

pub read_joined : {A : Type 0} (role : Role) (r : Reading A) (c : ℕ) (frames : Option (List ℕ)) (b : List ℕ) (me : ActorState A) → r ≡ reading.Joined c frames → IsReading role r b me
    → IsJoined role b c frames me
read_joined {A} role r c frames b me is was = subst (λ (q : Reading A). IsReading role q b me) is was

-- a reader that couldn't connect stops
pub piece_refused : {A : Type 0} (f : BodyFault) (old me us : Admitting A) → me ≡ old → us.actor ≡ me.actor → us.intake ≡ me.intake → us.is_refused ≡ me.is_refused
    → HasTakenPiece (piece.Stop f) old us
piece_refused f old me us first actor intake refused = record {
  numbers = (ap (λ w. w.number) actor ∙ ap (λ v. v.actor.number) first, ap (λ w. w.number) intake ∙ ap (λ v. v.intake.number) first);
  settled = λ jobs is. kept_settled jobs old me us first actor intake refused is;
  connection = tt;
  ends = tt;
  alone = tt;
}

-- a piece that is taken once the reader has connected
pub piece_connected : {A : Type 0} (made : Option ℕ) (p : Piece A) (old me us them : Admitting A) → me ≡ old → old.actor.receipts ≡ [] → us.actor.number ≡ me.actor.number
    → HasOnlyConnected made us.actor → us.intake ≡ me.intake → us.is_refused ≡ me.is_refused → HasTakenPiece p us them → HasTakenPiece p old them
piece_connected made p old me us them first none number did intake refused taken = record {
  numbers = (taken.numbers.0 ∙ number ∙ ap (λ v. v.actor.number) first, taken.numbers.1 ∙ ap (λ w. w.number) intake ∙ ap (λ v. v.intake.number) first);
  settled = λ jobs is. taken.settled jobs (connected_settled made jobs old me us first none did intake refused is);
  connection = taken.connection;
  ends = taken.ends;
  alone = taken.alone;
}

-- a piece that was taken, after so many
pub pieces_taken : {A : Type 0} (turns : ℕ) (role : Role) (p : Piece A) (before after : Admitting A) (half : ReadHalf) (may_fail : Bool) (count : ℕ) → HasTakenPiece p before after
    → (half.is_known ≡ true → IsTaken role p half.bytes after.actor) → half.pieces ≡ count → half.failures ≡ 0 → HasReadPieces turns role p after.actor half may_fail count
pieces_taken turns role (piece.More r) before after half may_fail count did is pieces unfailed = record { has = did.connection; is = is; pieces = pieces; unfailed = unfailed }
pieces_taken turns role (piece.End made end) before after half may_fail count did is pieces unfailed = record {
  connection = did.connection.0;
  did = did.connection.1;
  alone = did.alone;
  row = is;
  counts = bytes_source turns end half did.ends;
  failed = bytes_not_failed end did.ends;
}
pieces_taken turns role (piece.Stop f) before after half may_fail count did is pieces unfailed = tt

-- a reader that goes on
pub pieces_more : {A : Type 0} (turns : ℕ) (role : Role) (p : Piece A) (r : Reading A) (me : ActorState A) (half : ReadHalf) (may_fail : Bool) (count : ℕ) → p ≡ piece.More r
    → HasReadPieces turns role p me half may_fail count → HasReadOn role r me half count
pieces_more {A} turns role p r me half may_fail count is did = subst (λ (q : Piece A). HasReadPieces turns role q me half may_fail count) is did

-- one that reads no more: a piece ended it, or its turns are over
pub pieces_ended : {A : Type 0} (turns : ℕ) (role : Role) (p : Piece A) (me : ActorState A) (half : ReadHalf) (may_fail : Bool) (count : ℕ) → GreetingIsKnown
    → ((r : Reading A) → p ≡ piece.More r → count ≡ turns) → HasReadPieces turns role p me half may_fail count
    → IfOk (end_of_turns p) (λ e. EndsReading turns role e.1 e.0 me half may_fail)
pieces_ended turns role (piece.More r) me half may_fail count known over did = record {
  connection = conn_of_reading r me did.has;
  did = turns_did r me did.has;
  alone = λ none. alone_of_reading r me did.has none;
  row = λ is_known. turns_row known role r half.bytes me (did.is is_known) did.has;
  counts = did.pieces ∙ over r refl;
  failed = λ ends. absurd (cc);
}
pieces_ended turns role (piece.End made end) me half may_fail count known over did = did
pieces_ended turns role (piece.Stop f) me half may_fail count known over did = tt
