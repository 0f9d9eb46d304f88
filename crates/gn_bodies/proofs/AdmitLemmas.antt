-- Descriptors that are admitted one by one.
use Rattle.std.proofs.Common.{◌≡◌, ℕ, ◌+◌, ◌<◌, List, [], ◌∷◌, ◌++◌, length, take, map, refl, sym, ap, ◌∙◌, arith, append_assoc, append-nil, length-append}
use Rattle.std.proofs.lemmas.List.{map-append, take_at}
use Rattle.gn_wire.specs.Packet.{Packet}
use Rattle.gn_rules.specs.declared.event.Event.TheVariants.{Admit}
use Rattle.gn_bodies.specs.Admitting.{Admitting, HasSameNumbers, KeepsConnection, StaysSettled}
use Rattle.gn_bodies.specs.Events.{link_events}

-- a loop over descriptors, where those of `left` are still to come
pub record IsAdmitting {A : Type 0} (left all : List Packet) (c : ℕ) (me us : Admitting A) : Type 0 where
  pub done : List Packet
  pub split : all ≡ done ++ left
  pub added : link_events us.actor ≡ link_events me.actor ++ map (Admit c) done
  pub numbers : HasSameNumbers me us
  pub connection : KeepsConnection me.actor us.actor
  pub settled : StaysSettled me us

pub admitting_none : {A : Type 0} (all : List Packet) (c : ℕ) (me : Admitting A) → IsAdmitting all all c me me
admitting_none all c me = record {
  done = [];
  split = refl;
  added = sym (append-nil (link_events me.actor));
  numbers = (refl, refl);
  connection = λ d e. e;
  settled = λ jobs is. is;
}

pub admitting_more : {A : Type 0} (left rest all : List Packet) (d : Packet) (c : ℕ) (me us them : Admitting A) → left ≡ d ∷ rest → IsAdmitting left all c me us
    → link_events them.actor ≡ link_events us.actor ++ Admit c d ∷ [] → HasSameNumbers us them → KeepsConnection us.actor them.actor → StaysSettled us them
    → IsAdmitting rest all c me them
admitting_more left rest all d c me us them is was more same stays settles = record {
  done = was.done ++ d ∷ [];
  split = was.split ∙ ap (λ w. was.done ++ w) is ∙ sym (append_assoc was.done (d ∷ []) rest);
  added = more ∙ ap (λ w. w ++ Admit c d ∷ []) was.added ∙ append_assoc (link_events me.actor) (map (Admit c) was.done) (Admit c d ∷ [])
      ∙ ap (λ w. link_events me.actor ++ w) (sym (map-append (Admit c) was.done (d ∷ [])));
  numbers = (same.0 ∙ was.numbers.0, same.1 ∙ was.numbers.1);
  connection = λ e h. stays e (was.connection e h);
  settled = λ jobs h. settles jobs (was.settled jobs h);
}

pub admitting_part : {A : Type 0} (left rest all : List Packet) (d : Packet) (c : ℕ) (me us them : Admitting A) → left ≡ d ∷ rest → IsAdmitting left all c me us
    → link_events them.actor ≡ link_events us.actor → (n : ℕ) × (n < length all) × (link_events them.actor ≡ link_events me.actor ++ map (Admit c) (take n all))
admitting_part left rest all d c me us them is was same =
    let whole : all ≡ was.done ++ (d ∷ rest) = was.split ∙ ap (λ w. was.done ++ w) is in
    let long : length all ≡ length was.done + length (d ∷ rest) = ap length whole ∙ length-append was.done (d ∷ rest) in
    let first : take (length was.done) all ≡ was.done = ap (take (length was.done)) whole ∙ take_at was.done (d ∷ rest) (length was.done) refl in
    (length was.done, omega arith, same ∙ was.added ∙ ap (λ w. link_events me.actor ++ map (Admit c) w) (sym first))
