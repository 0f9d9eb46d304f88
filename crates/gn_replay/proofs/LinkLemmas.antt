-- Pieces of a link, by its bytes so far.
use Rattle.std.proofs.Common.{◌≡◌, ℕ, Bool, true, false, List, [], ◌++◌, length, drop, Option, Some, None, Result, Ok, Err, IfOk, refl, sym, ap, ◌∙◌, subst}
use Rattle.std.proofs.lemmas.List.{drop_at}
use Rattle.gn_wire.specs.declared.header.FrameFault.{FrameFault}
use Rattle.gn_wire.specs.Packet.{Packet}
use Rattle.gn_frames.specs.Frames.{Frames, frames_of, no_frames}
use Rattle.gn_frames.specs.Reassembly.{held_of}
use Rattle.gn_shake.specs.declared.role.Role.{Role}
use Rattle.gn_shake.specs.declared.role.Role.TheVariants.{Accepting, Plain}
use Rattle.gn_shake.specs.declared.shake.ShakeState.{ShakeState}
use Rattle.gn_shake.specs.declared.shake.ShakeState.TheVariants.{More, Done, Refused}
use Rattle.gn_shake.specs.Greeting.{greeting_state, request_text}
use Rattle.gn_shake.specs.Shaking.{Shaking}
use Rattle.gn_inbound.specs.declared.inbound.Inbound.{Inbound}
use Rattle.gn_inbound.specs.declared.inbound.Inbound.TheVariants as inbound
use Rattle.gn_inbound.specs.Inbound.{IsAt, IsGiven, offers, offers_at}
use Rattle.gn_rules.specs.declared.event.Event.TheVariants.{Connect}
use Rattle.gn_rules.specs.Answer.{answer}
use Rattle.gn_text.specs.Links.{greeting_refused_text}
use Rattle.gn_replay.specs.declared.link.Link.{Link}
use Rattle.gn_replay.specs.declared.link.Link.TheVariants as keep
use Rattle.gn_replay.specs.Events.{prints, happens, connection_of}
use Rattle.gn_replay.specs.Links.{greeting, joined, IsLink}
use Rattle.gn_replay.specs.Pieces.{admits, completed, delivers, delivers_these, fault_plays, joins, joined_to, connects, delivers_if_connected, greets}
use Rattle.gn_replay.specs.Playing.{Playing, HasAdmitted, HasLinked, after_playing}
use Rattle.gn_replay.proofs.AdmitLemmas.{after_playing_both, after_playing_nothing}

-- no bytes have no fault
no_fault : (frames_of []).fault ≡ None
unfolding frames_of
no_fault = refl

-- the connection was found closed
pub finished_closed : {A : Type 0} (v after : Playing A) (i c : ℕ) (bytes : List ℕ) (packets : List Packet) (fault : Option FrameFault)
    → HasAdmitted true v after (admits v.settings v.past c packets)
    → HasLinked keep.Ended v after (delivers_these v.settings v.past i c bytes packets fault)
finished_closed v after i c bytes packets fault done =
    rw (← done.found) (record { played = done.played; state = tt })

-- no fault stands after the descriptors
pub finished_well : {A : Type 0} (v after : Playing A) (i c : ℕ) (bytes : List ℕ) (packets : List Packet) (kept : Link A)
    → HasAdmitted false v after (admits v.settings v.past c packets) → IsLink kept (joined c bytes)
    → HasLinked kept v after (delivers_these v.settings v.past i c bytes packets None)
finished_well v after i c bytes packets kept done held =
    rw (← done.found) (record { played = done.played; state = held })

-- a fault stands after them
pub finished_badly : {A : Type 0} (v between after : Playing A) (i c : ℕ) (bytes : List ℕ) (packets : List Packet) (fault : FrameFault)
    → HasAdmitted false v between (admits v.settings v.past c packets)
    → after ≡ after_playing between (fault_plays between.settings between.past i c fault)
    → HasLinked keep.Ended v after (delivers_these v.settings v.past i c bytes packets (Some fault))
finished_badly v between after i c bytes packets fault done more =
    let came = (admits v.settings v.past c packets).played in
    let last : after_playing between (fault_plays between.settings between.past i c fault) ≡ after_playing (after_playing v came) (fault_plays v.settings came.past i c fault) =
    ap (λ (w : Playing _). after_playing w (fault_plays w.settings w.past i c fault)) done.played in
    rw (← done.found) (record { played = more ∙ last ∙ after_playing_both v came (fault_plays v.settings came.past i c fault); state = tt })

-- what a plain link offers are the frames of its bytes
plain : (bytes : List ℕ) → offers Plain bytes ≡ frames_of bytes
plain bytes = refl

-- the first piece of a link completes all of its descriptors
first : (bytes : List ℕ) → completed [] bytes ≡ (frames_of bytes).descriptors
unfolding frames_of
first bytes = refl

-- what a piece of a plain link gave is what it completes
completes : (bytes piece : List ℕ) (packets : List Packet) → (offers Plain (bytes ++ piece)).descriptors ≡ (offers Plain bytes).descriptors ++ packets → packets ≡ completed bytes piece
completes bytes piece packets new =
    let before : List Packet = (frames_of bytes).descriptors in
    sym (ap (drop (length before)) new ∙ drop_at before packets (length before) refl)

-- a piece of a joined link was delivered
pub delivered : {A E : Type 0} (v after : Playing A) (i c : ℕ) (piece : List ℕ) (before later : Inbound A) (opened : Bool) (packets : List Packet) (fault : Option FrameFault) (r : Result (Link A) E)
    → ((role : Role) (b : List ℕ) → IsAt role b before → IsGiven role b piece later opened packets fault)
    → IfOk r (λ link. (bytes : List ℕ) → (fault ≡ None → IsLink {A = A} (keep.Joined c later) (joined c bytes))
    → HasLinked link v after (delivers_these v.settings v.past i c bytes packets fault))
    → IfOk r (λ link. (bytes : List ℕ) → IsLink {A = A} (keep.Joined c before) (joined c bytes)
    → HasLinked link v after (delivers v.settings v.past i c bytes piece))
delivered v after i c piece before later opened packets fault (Err e) given have = have
delivered v after i c piece before later opened packets fault (Ok kept) given have =
    λ bytes held.
    let is = given Plain bytes held.2 in
    let ends : fault ≡ (frames_of (bytes ++ piece)).fault = is.ends held.1 in
    let done = have (bytes ++ piece) (λ none. (refl, sym ends ∙ none, is.at)) in
    rw (completes bytes piece packets is.new, ends) at done

-- a link was connected, and what came after its greeting taken
pub connected : {A E : Type 0} (v between after : Playing A) (i c : ℕ) (inbound : Inbound A) (packets : List Packet) (fault : Option FrameFault) (outcome : Option ℕ) (r : Result (Link A) E)
    → between ≡ after_playing v (happens v.settings v.past Connect) → outcome ≡ connection_of (answer v.settings v.past Connect) → outcome ≡ Some c
    → IfOk r (λ link. (bytes : List ℕ) → (fault ≡ None → IsLink {A = A} (keep.Joined c inbound) (joined c bytes))
    → HasLinked link between after (delivers_these between.settings between.past i c bytes packets fault))
    → IfOk r (λ link. (bytes : List ℕ) → IsAt Plain bytes inbound → packets ≡ (frames_of bytes).descriptors → fault ≡ (frames_of bytes).fault
    → HasLinked link v after (connects v.settings v.past i bytes))
connected v between after i c inbound packets fault outcome (Err e) after_playing_is outcome_is some have = have
connected {A} v between after i c inbound packets fault outcome (Ok kept) after_playing_is outcome_is some have =
    λ bytes is all ends.
    let p = happens v.settings v.past Connect in
    let here : HasLinked kept (after_playing v p) after (delivers_these v.settings p.past i c bytes packets fault) =
    subst (λ (w : Playing A). HasLinked kept w after (delivers_these w.settings w.past i c bytes packets fault)) after_playing_is (have bytes (λ none. (refl, sym ends ∙ none, is))) in
    let done : HasLinked kept (after_playing v p) after (delivers v.settings p.past i c [] bytes) = rw (all ∙ sym (first bytes), ends) at here in
    let made : connection_of (answer v.settings v.past Connect) ≡ Some c = sym outcome_is ∙ some in
    let whole : HasLinked kept v after (delivers_if_connected v.settings i p bytes (Some c)) =
    record { played = done.played ∙ after_playing_both v p (delivers v.settings p.past i c [] bytes).played; state = done.state } in
    subst (λ (o : Option ℕ). HasLinked kept v after (delivers_if_connected v.settings i p bytes o)) (sym made) whole

-- a link that needs no greeting was connected
pub was_joined : {A : Type 0} (v after : Playing A) (c : ℕ) (inbound : Inbound A) (outcome : Option ℕ)
    → after ≡ after_playing v (happens v.settings v.past Connect) → outcome ≡ connection_of (answer v.settings v.past Connect) → outcome ≡ Some c → IsAt Plain [] inbound
    → HasLinked {A = A} (keep.Joined c inbound) v after (joins v.settings v.past)
was_joined {A} v after c inbound outcome after_playing_is outcome_is some new =
    let made : connection_of (answer v.settings v.past Connect) ≡ Some c = sym outcome_is ∙ some in
    record { played = after_playing_is; state = subst (λ (o : Option ℕ). IsLink {A = A} (keep.Joined c inbound) (joined_to o)) (sym made) (refl, no_fault, new) }

-- a piece of a link that awaits its greeting gave this
module _ {A : Type 0} (v later : Playing A) (i : ℕ) (piece : List ℕ) (before after : Inbound A) (opened : Bool) (packets : List Packet) (fault : Option FrameFault)
    (given : (role : Role) (b : List ℕ) → IsAt role b before → IsGiven role b piece after opened packets fault) where
  here : (bytes : List ℕ) (known : Inbound A) → IsLink {A = A} (keep.Greeting before) (greeting bytes) → after ≡ known → IsAt Accepting (bytes ++ piece) known
  here bytes known start is = subst (λ (x : Inbound A). IsAt Accepting (bytes ++ piece) x) is (given Accepting bytes start.0).at

  -- the greeting isn't whole yet
  pub greets_more : (shake : Shaking) → after ≡ inbound.Greeting shake → (bytes : List ℕ) → IsLink {A = A} (keep.Greeting before) (greeting bytes)
      → HasLinked (keep.Greeting after) v v (greets v.settings v.past i (bytes ++ piece) (greeting_state request_text (bytes ++ piece)))
  greets_more shake is bytes start =
      let more : greeting_state request_text (bytes ++ piece) ≡ More = (here bytes (inbound.Greeting shake) start is).0 in
      rw more (record { played = sym (after_playing_nothing v); state = ((given Accepting bytes start.0).at, more) })

  -- it is refused
  pub greets_refused : after ≡ inbound.Refused → later ≡ after_playing v (prints v.past (greeting_refused_text i)) → (bytes : List ℕ) → IsLink {A = A} (keep.Greeting before) (greeting bytes)
      → HasLinked keep.Ended v later (greets v.settings v.past i (bytes ++ piece) (greeting_state request_text (bytes ++ piece)))
  greets_refused is printed bytes start =
      let refused : greeting_state request_text (bytes ++ piece) ≡ Refused = here bytes inbound.Refused start is in
      rw refused (record { played = printed; state = tt })

  -- it is whole
  pub greets_done : {E : Type 0} (frames : Option (List ℕ)) (r : Result (Link A) E) → after ≡ inbound.Open frames
      → IfOk r (λ link. (bytes : List ℕ) → IsAt Plain bytes after → packets ≡ (frames_of bytes).descriptors → fault ≡ (frames_of bytes).fault
      → HasLinked link v later (connects v.settings v.past i bytes))
      → IfOk r (λ link. (bytes : List ℕ) → IsLink {A = A} (keep.Greeting before) (greeting bytes)
      → HasLinked link v later (greets v.settings v.past i (bytes ++ piece) (greeting_state request_text (bytes ++ piece))))
  greets_done frames (Err e) is have = have
  greets_done frames (Ok kept) is have =
      λ bytes start.
      let gave = given Accepting bytes start.0 in
      let at = here bytes (inbound.Open frames) start is in
      let rest = drop (length request_text) (bytes ++ piece) in
      let done : greeting_state request_text (bytes ++ piece) ≡ Done = at.0 in
      let offered : offers Accepting (bytes ++ piece) ≡ frames_of rest = ap (λ (st : ShakeState). offers_at st Accepting (bytes ++ piece)) done in
      let none : offers Accepting bytes ≡ no_frames bytes None = ap (λ (st : ShakeState). offers_at st Accepting bytes) start.1 in
      let all : packets ≡ (frames_of rest).descriptors = sym (ap (λ (f : Frames). f.descriptors ++ packets) none) ∙ sym gave.new ∙ ap (λ (f : Frames). f.descriptors) offered in
      let ends : fault ≡ (frames_of rest).fault = gave.ends (ap (λ (f : Frames). f.fault) none) ∙ ap (λ (f : Frames). f.fault) offered in
      let plainly : IsAt Plain rest after = subst (λ (x : Inbound A). IsAt Plain rest x) (sym is) (refl, at.1 ∙ ap held_of offered) in
      let whole = have rest plainly all ends in
      rw done whole
