-- A piece of a stream, and its descriptors admitted.
use Rattle.std.proofs.Common.{◌≡◌, ℕ, ◌+◌, ◌<◌, List, ◌∷◌, ◌++◌, length, take, map, Option, Some, None, Ok, Err, refl, sym, ap, ◌∙◌, subst, arith, length-append}
use Rattle.std.specs.Prelude.{IfErr, OnOk, Result}
use Rattle.std.proofs.lemmas.List.{map-append}
use Rattle.std.proofs.Math.Seq.{take-append-add}
use Rattle.gn_wire.specs.declared.header.FrameFault.{FrameFault}
use Rattle.gn_wire.specs.Packet.{Packet}
use Rattle.gn_rules.specs.declared.event.Event.TheVariants.{Connect, Admit}
use Rattle.gn_frames.specs.Frames.{frames_of}
use Rattle.gn_frames.specs.Reassembly.{IsAnswer, IsStreamed, PiecesAreOneStream, held_of}
use Rattle.gn_shake.specs.declared.role.Role.{Role}
use Rattle.gn_shake.specs.Greeting.{GreetingIsKnown, greeting_of}
use Rattle.gn_hub.specs.ActorState.{ActorState}
use Rattle.gn_bodies.specs.declared.piece.Halt.{Halt}
use Rattle.gn_bodies.specs.declared.piece.Halt.TheVariants as halt
use Rattle.gn_bodies.specs.Admitting.{Admitting, GoesOn}
use Rattle.gn_bodies.specs.Events.{link_events}
use Rattle.gn_bodies.specs.Reading.{HasTakenPiece, IsOffered, IsOpen, IsTaken, piece_of}
use Rattle.gn_bodies.proofs.ReadingLemmas.{fault_row, not_live_row, whole_more}

pub streamed : (s piece : List ℕ) (before : Option (List ℕ)) (ds : List Packet) (fault : Option FrameFault) (after : Option (List ℕ)) → PiecesAreOneStream → before ≡ held_of (frames_of s)
    → IsAnswer before piece ds fault after → IsStreamed s piece ds fault after
streamed s piece before ds fault after law held answered = law s piece ds fault after (subst (λ (b : Option (List ℕ)). IsAnswer b piece ds fault after) held answered)

-- all were admitted
pub delivered_all : {A : Type 0} (s piece : List ℕ) (c : ℕ) (ds : List Packet) (fault : Option FrameFault) (after : Option (List ℕ)) (me us : ActorState A) → IsStreamed s piece ds fault after
    → link_events me ≡ Connect ∷ map (Admit c) (frames_of s).descriptors → link_events us ≡ link_events me ++ map (Admit c) ds → link_events us ≡ Connect ∷ map (Admit c) (frames_of (s ++ piece)).descriptors
delivered_all s piece c ds fault after me us is was more =
    let both : map (Admit c) (frames_of (s ++ piece)).descriptors ≡ map (Admit c) (frames_of s).descriptors ++ map (Admit c) ds =
    ap (map (Admit c)) is.all ∙ map-append (Admit c) (frames_of s).descriptors ds in
    more ∙ ap (λ w. w ++ map (Admit c) ds) was ∙ ap (λ w. Connect ∷ w) (sym both)

-- the first of them were
pub delivered_part : {A : Type 0} (s piece : List ℕ) (c n : ℕ) (ds : List Packet) (fault : Option FrameFault) (after : Option (List ℕ)) (me us : ActorState A) → IsStreamed s piece ds fault after
    → link_events me ≡ Connect ∷ map (Admit c) (frames_of s).descriptors → n < length ds → link_events us ≡ link_events me ++ map (Admit c) (take n ds)
    → (m : ℕ) × (m < length (frames_of (s ++ piece)).descriptors) × (link_events us ≡ Connect ∷ map (Admit c) (take m (frames_of (s ++ piece)).descriptors))
delivered_part s piece c n ds fault after me us is was below more =
    let all = (frames_of (s ++ piece)).descriptors in
    let first = (frames_of s).descriptors in
    let part : take (length first + n) all ≡ first ++ take n ds = ap (take (length first + n)) is.all ∙ take-append-add first ds n in
    let both : map (Admit c) (take (length first + n) all) ≡ map (Admit c) first ++ map (Admit c) (take n ds) = ap (map (Admit c)) part ∙ map-append (Admit c) first (take n ds) in
    let long : length all ≡ length first + length ds = ap length is.all ∙ length-append first ds in
    (length first + n, omega arith, more ∙ ap (λ w. w ++ map (Admit c) (take n ds)) was ∙ ap (λ w. Connect ∷ w) (sym both))

-- descriptors more were admitted
offered_more : {A : Type 0} (c : ℕ) (ds : List Packet) (me us : ActorState A) → IsOffered c me.receipts → link_events us ≡ link_events me ++ map (Admit c) ds → IsOffered c us.receipts
offered_more c ds me us (first, was) more =
    (first ++ ds, more ∙ ap (λ w. w ++ map (Admit c) ds) was ∙ ap (λ w. Connect ∷ w) (sym (map-append (Admit c) first ds)))

-- a piece whose descriptors were admitted so is taken
pub admitted_piece : {A : Type 0} (c : ℕ) (ds : List Packet) (frames : Option (List ℕ)) (admitted : Result (Unit {0}) Halt) (fault : Option FrameFault) (before after : Admitting A) → IsOpen c before.actor
    → GoesOn before after → OnOk admitted (link_events after.actor ≡ link_events before.actor ++ map (Admit c) ds)
    → IfErr admitted (λ why. why ≡ halt.NotLive → (n : ℕ) × (n < length ds) × (link_events after.actor ≡ link_events before.actor ++ map (Admit c) (take n ds)))
    → HasTakenPiece (piece_of c frames admitted fault) before after
admitted_piece c ds frames (Ok u) None before after has went all not_live = record {
  numbers = went.numbers;
  settled = went.settled;
  connection = record { connection = went.connection c has.connection; offered = offered_more c ds before.actor after.actor has.offered all };
  ends = tt;
  alone = tt;
}
admitted_piece c ds frames (Ok u) (Some f) before after has went all not_live = record {
  numbers = went.numbers;
  settled = went.settled;
  connection = (went.connection c has.connection, (refl, offered_more c ds before.actor after.actor has.offered all));
  ends = refl;
  alone = λ none. absurd (cc);
}
admitted_piece c ds frames (Err halt.NotLive) fault before after has went all not_live =
    let (n, below, more) = not_live refl in
    record {
      numbers = went.numbers;
      settled = went.settled;
      connection = (went.connection c has.connection, (refl, offered_more c (take n ds) before.actor after.actor has.offered more));
      ends = refl;
      alone = λ none. absurd (cc);
    }
admitted_piece c ds frames (Err (halt.Stop f)) fault before after has went all not_live = record { numbers = went.numbers; settled = went.settled; connection = tt; ends = tt; alone = tt }

-- and leaves what its bytes do
pub admitted_taken : {A : Type 0} → GreetingIsKnown → (role : Role) (b s piece : List ℕ) (c : ℕ) (ds : List Packet) (after : Option (List ℕ)) (admitted : Result (Unit {0}) Halt) (fault : Option FrameFault)
    (me us : ActorState A) → b ≡ greeting_of role ++ s → IsStreamed s piece ds fault after → link_events me ≡ Connect ∷ map (Admit c) (frames_of s).descriptors
    → OnOk admitted (link_events us ≡ link_events me ++ map (Admit c) ds)
    → IfErr admitted (λ why. why ≡ halt.NotLive → (n : ℕ) × (n < length ds) × (link_events us ≡ link_events me ++ map (Admit c) (take n ds)))
    → IsTaken role (piece_of c after admitted fault) (b ++ piece) us
admitted_taken known role b s piece c ds after (Ok u) None me us whole is was all not_live = record {
  stream = s ++ piece;
  whole = whole_more role b s piece whole;
  offering = record { held = sym is.held; clean = is.ends; events = delivered_all s piece c ds None after me us is was all };
}
admitted_taken known role b s piece c ds after (Ok u) (Some f) me us whole is was all not_live =
    fault_row known role (b ++ piece) (s ++ piece) c f us (whole_more role b s piece whole) is.ends (delivered_all s piece c ds (Some f) after me us is was all)
admitted_taken known role b s piece c ds after (Err halt.NotLive) fault me us whole is was all not_live =
    let (n, below, more) = not_live refl in
    not_live_row known role (b ++ piece) (s ++ piece) c us (whole_more role b s piece whole) (delivered_part s piece c n ds fault after me us is was below more)
admitted_taken known role b s piece c ds after (Err (halt.Stop f)) fault me us whole is was all not_live = tt
