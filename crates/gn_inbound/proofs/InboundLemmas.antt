-- A piece of a link's bytes.
use Rattle.std.proofs.Common.{◌≡◌, ℕ, true, false, List, [], ◌++◌, length, drop, Option, Some, None, refl, sym, ap, ◌∙◌, subst, append_assoc, append-nil}
use Rattle.std.proofs.lemmas.List.{drop_at}
use Rattle.gn_wire.specs.declared.header.FrameFault.{FrameFault}
use Rattle.gn_wire.specs.Packet.{Packet}
use Rattle.gn_frames.specs.declared.reassembler.FeedRefusal.TheVariants.{Ended, NoMemory}
use Rattle.gn_frames.specs.Frames.{Frames, FramesAreCut, frames_of}
use Rattle.gn_frames.specs.Reassembly.{IsAnswer, IsFeedRefusal, PiecesAreOneStream, held_of, unless_ended}
use Rattle.gn_shake.specs.declared.role.Role.{Role}
use Rattle.gn_shake.specs.declared.role.Role.TheVariants.{Plain}
use Rattle.gn_shake.specs.declared.shake.ShakeState.{ShakeState}
use Rattle.gn_shake.specs.declared.shake.ShakeState.TheVariants.{More, Done, Refused}
use Rattle.gn_shake.specs.Greeting.{GreetingIsKnown, greeting_of, greeting_state}
use Rattle.gn_shake.specs.Shaking as shaking
use Rattle.gn_shake.specs.Shaking.{Shaking, answer_of, fed, used_of, shake_of}
use Rattle.gn_inbound.specs.declared.inbound.Inbound.TheVariants as inbound
use Rattle.gn_inbound.specs.Inbound.{IsAt, IsGiven, offers, offers_at, opens}

-- a plain link without bytes is open
pub begun : (A : Type 0) (frames : Option (List ℕ)) → frames ≡ Some [] → IsAt {A = A} Plain [] (inbound.Open frames)
unfolding frames_of
begun A frames new = (refl, new)

-- a stream that begins with the greeting has it accepted
accepted : GreetingIsKnown → (role : Role) (b s : List ℕ) → b ≡ greeting_of role ++ s → greeting_state (greeting_of role) b ≡ Done
accepted known role b s whole = sym ((known (greeting_of role) b Done).0 (s, whole))

whole_more : (role : Role) (b s piece : List ℕ) → b ≡ greeting_of role ++ s → b ++ piece ≡ greeting_of role ++ (s ++ piece)
whole_more role b s piece whole = ap (λ w. w ++ piece) whole ∙ append_assoc (greeting_of role) s piece

-- what an open link offers
pub offers_open : GreetingIsKnown → (role : Role) (b s : List ℕ) → b ≡ greeting_of role ++ s → offers role b ≡ frames_of s
offers_open known role b s whole =
    let g = greeting_of role in
    ap (λ (st : ShakeState). offers_at st role b) (accepted known role b s whole) ∙ ap frames_of (ap (drop (length g)) whole ∙ drop_at g s (length g) refl)

-- the bytes of an open link are its greeting and the bytes after it
split : GreetingIsKnown → (role : Role) (b : List ℕ) → greeting_state (greeting_of role) b ≡ Done → (s : List ℕ) × (b ≡ greeting_of role ++ s)
split known role b done = (known (greeting_of role) b Done).1 (sym done)

-- once the greeting is whole no piece opens
opens_once : (role : Role) (b piece : List ℕ) → greeting_state (greeting_of role) b ≡ Done → false ≡ opens role b piece
opens_once role b piece done = rw done refl

-- a piece of an open link
pub delivered : {A : Type 0} → GreetingIsKnown → PiecesAreOneStream → (role : Role) (b piece : List ℕ) (frames : Option (List ℕ)) (ds : List Packet) (fault : Option FrameFault) (after : Option (List ℕ))
    → IsAnswer frames piece ds fault after → IsAt {A = A} role b (inbound.Open frames) → IsGiven {A = A} role b piece (inbound.Open after) false ds fault
delivered {A} known one role b piece frames ds fault after answered (done, held) =
    let (s, whole) = split known role b done in
    let before = offers_open known role b s whole in
    let is = one s piece ds fault after (subst (λ (f : Option (List ℕ)). IsAnswer f piece ds fault after) (held ∙ ap held_of before) answered) in
    let more = whole_more role b s piece whole in
    let all = offers_open known role (b ++ piece) (s ++ piece) more in
    record {
      at = (accepted known role (b ++ piece) (s ++ piece) more, sym is.held ∙ ap held_of (sym all));
      opens = opens_once role b piece done;
      new = ap (λ (f : Frames). f.descriptors) all ∙ is.all ∙ ap (λ (f : Frames). f.descriptors ++ ds) (sym before);
      ends = λ none. sym is.ends ∙ sym (ap (λ (f : Frames). f.fault) all);
    }

-- only a fault ends what is held
faulted : (f : Frames) (at : Option FrameFault) → f.fault ≡ at → None ≡ unless_ended at f.rest → (fault : FrameFault) × (f.fault ≡ Some fault)
faulted f (Some fault) is none = (fault, is)
faulted f None is none = let no : None ≡ Some f.rest = none in absurd (cc)

-- a piece of a link whose bytes had a fault
pub stays_ended : {A : Type 0} → GreetingIsKnown → FramesAreCut → (role : Role) (b piece : List ℕ) (frames after : Option (List ℕ)) → IsFeedRefusal frames Ended → after ≡ frames
    → IsAt {A = A} role b (inbound.Open frames) → IsGiven {A = A} role b piece (inbound.Open after) false [] None
stays_ended {A} known cut role b piece (Some rest) after refused same was = let no : Ended ≡ NoMemory = refused in absurd (cc)
stays_ended {A} known cut role b piece None after refused same (done, held) =
    let (s, whole) = split known role b done in
    let before = offers_open known role b s whole in
    let (fault, is) = faulted (frames_of s) (frames_of s).fault refl (held ∙ ap held_of before) in
    let more = whole_more role b s piece whole in
    let still = offers_open known role (b ++ piece) (s ++ piece) more ∙ (cut s piece).fault fault is in
    record {
      at = (accepted known role (b ++ piece) (s ++ piece) more, same ∙ sym (ap held_of still));
      opens = opens_once role b piece done;
      new = ap (λ (f : Frames). f.descriptors) still ∙ sym (append-nil (frames_of s).descriptors) ∙ ap (λ (f : Frames). f.descriptors ++ []) (sym before);
      ends = λ none. let no : Some fault ≡ None = sym (ap (λ (f : Frames). f.fault) before ∙ is) ∙ none in absurd (cc);
    }

-- a piece of a greeting was answered with the state of all bytes so far
pub record IsGreeted (g b piece : List ℕ) (after : Shaking) (state : ShakeState) : Type 0 where
  pub state_is : greeting_state g (b ++ piece) ≡ state
  pub kept : after ≡ shake_of g (b ++ piece)

pub greeted : (g b piece : List ℕ) (before after : Shaking) (state : ShakeState) → shaking.PiecesAreOneStream → before ≡ shake_of g b
    → state ≡ answer_of before piece → after ≡ fed before piece → IsGreeted g b piece after state
greeted g b piece before after state one start answered then_kept =
    record {
      state_is = sym (one g b piece).state ∙ ap (λ (k : Shaking). answer_of k piece) (sym start) ∙ sym answered;
      kept = then_kept ∙ ap (λ (k : Shaking). fed k piece) start ∙ (one g b piece).after;
    }

-- the bytes after a greeting that is whole
pub rest_after : (g b piece rest : List ℕ) (used : ℕ) (before : Shaking) → shaking.PiecesAreOneStream → GreetingIsKnown → before ≡ shake_of g b → greeting_state g b ≡ More
    → greeting_state g (b ++ piece) ≡ Done → used ≡ used_of before piece → rest ≡ drop used piece → b ++ piece ≡ g ++ rest
rest_after g b piece rest used before one known start more done used_is rest_is =
    let (s, whole) = (known g (b ++ piece) Done).1 (sym done) in
    let here : rest ≡ drop (length g) (b ++ piece) =
    rest_is ∙ ap (λ (n : ℕ). drop n piece) (used_is ∙ ap (λ (k : Shaking). used_of k piece) start) ∙ (one g b piece).rest more done in
    whole ∙ ap (λ w. g ++ w) (sym (here ∙ ap (drop (length g)) whole ∙ drop_at g s (length g) refl))

-- the bytes after the greeting, on a new stream
pub opened : {A : Type 0} → GreetingIsKnown → PiecesAreOneStream → (role : Role) (b piece rest : List ℕ) (frames : Option (List ℕ)) (ds : List Packet) (fault : Option FrameFault) (after : Option (List ℕ))
    → greeting_state (greeting_of role) b ≡ More → b ++ piece ≡ greeting_of role ++ rest → frames ≡ Some []
    → IsAnswer frames rest ds fault after → IsGiven {A = A} role b piece (inbound.Open after) true ds fault
unfolding frames_of
opened {A} known one role b piece rest frames ds fault after more whole new answered =
    let is = one [] rest ds fault after (subst (λ (f : Option (List ℕ)). IsAnswer f rest ds fault after) new answered) in
    let all = offers_open known role (b ++ piece) rest whole in
    record {
      at = (accepted known role (b ++ piece) rest whole, sym is.held ∙ ap held_of (sym all));
      opens = rw (more, accepted known role (b ++ piece) rest whole) refl;
      new = ap (λ (f : Frames). f.descriptors) all ∙ is.all ∙ ap (λ (st : ShakeState). (offers_at st role b).descriptors ++ ds) (sym more);
      ends = λ none. sym is.ends ∙ sym (ap (λ (f : Frames). f.fault) all);
    }

-- a piece after which the greeting isn't whole yet
pub waited : {A : Type 0} (role : Role) (b piece : List ℕ) (after : Shaking) → greeting_state (greeting_of role) b ≡ More → IsGreeted (greeting_of role) b piece after More
    → IsGiven {A = A} role b piece (inbound.Greeting after) false [] None
waited {A} role b piece after more is =
    record { at = (is.state_is, is.kept); opens = rw (more, is.state_is) refl; new = rw (more, is.state_is) refl; ends = rw (more, is.state_is) (λ none. refl) }

-- a piece with which the greeting is refused
pub turned : {A : Type 0} (role : Role) (b piece : List ℕ) (after : Shaking) → greeting_state (greeting_of role) b ≡ More → IsGreeted (greeting_of role) b piece after Refused
    → IsGiven {A = A} role b piece inbound.Refused false [] None
turned {A} role b piece after more is =
    record { at = is.state_is; opens = rw (more, is.state_is) refl; new = rw (more, is.state_is) refl; ends = rw (more, is.state_is) (λ none. refl) }

-- a piece after a refused greeting
pub stays_refused : {A : Type 0} → shaking.PiecesAreOneStream → (role : Role) (b piece : List ℕ) → greeting_state (greeting_of role) b ≡ Refused
    → IsGiven {A = A} role b piece inbound.Refused false [] None
stays_refused {A} one role b piece refused =
    let still = (one (greeting_of role) b piece).refused refused in
    record { at = still; opens = rw (refused, still) refl; new = rw (refused, still) refl; ends = rw (refused, still) (λ none. refl) }
