-- Descriptors that are admitted one by one.
use Rattle.std.proofs.Common.{◌≡◌, ◌+◌, ◌++◌, ℕ, true, false, List, [], ◌∷◌, length, refl, sym, ap, ◌∙◌, arith, subst, append_assoc, append-nil}
use Rattle.std.proofs.lemmas.Bool.Decides.{nat_tests}
use Rattle.gn_wire.specs.Packet.{Packet}
use Rattle.gn_rules.specs.declared.event.Event.TheVariants.{Admit}
use Rattle.gn_rules.specs.declared.receipt.Step.{Step}
use Rattle.gn_rules.specs.Answer.{answer}
use Rattle.gn_replay.specs.declared.form.Form.{Form}
use Rattle.gn_replay.specs.declared.form.Form.TheVariants.{Steps, Whole}
use Rattle.gn_replay.specs.declared.outcome.Outcome.{Outcome}
use Rattle.gn_replay.specs.Events.{Played, nothing, followed, happens, is_not_live}
use Rattle.gn_replay.specs.Outcomes.{IsOutcome}
use Rattle.gn_replay.specs.Pieces.{Admits, admits}
use Rattle.gn_replay.specs.Playing.{Playing, HasAdmitted, after_playing, refused_more, said}

-- counts one after the other
pub refused_both : (a b r : ℕ) → refused_more b (refused_more a r) ≡ refused_more (a + b) r
refused_both a b r = grind (arith, nat_tests)

-- what is printed of one after the other is what is printed of each
pub said_both : {A : Type 0} (form : Form) (p q : Played A) → said form (followed p q) ≡ said form p ++ said form q
said_both Whole p q = refl
said_both Steps p q = refl

pub said_nothing : {A : Type 0} (form : Form) (past : List (Step A)) → said form (nothing past) ≡ []
said_nothing Whole past = refl
said_nothing Steps past = refl

-- one played after the other
pub after_playing_both : {A : Type 0} (v : Playing A) (p q : Played A) → after_playing (after_playing v p) q ≡ after_playing v (followed p q)
after_playing_both v p q =
    let text : (v.out ++ said v.form p) ++ said v.form q ≡ v.out ++ said v.form (followed p q) =
    append_assoc v.out (said v.form p) (said v.form q) ∙ ap (λ r. v.out ++ r) (sym (said_both v.form p q)) in
    ap (λ (n : ℕ). record v { past = q.past; out = (v.out ++ said v.form p) ++ said v.form q; refusals = n }) (refused_both p.refusals q.refusals v.refusals)
    ∙ ap (λ (out : List ℕ). record v { past = q.past; out = out; refusals = refused_more (p.refusals + q.refusals) v.refusals }) text

-- nothing played
pub after_playing_nothing : {A : Type 0} (v : Playing A) → after_playing v (nothing v.past) ≡ v
after_playing_nothing v = ap (λ (out : List ℕ). record v { out = out }) (ap (λ r. v.out ++ r) (said_nothing v.form v.past) ∙ append-nil v.out)

-- a loop over the descriptors, where those of `left` are still to come
pub record IsAdmitting {A : Type 0} (before now : Playing A) (c : ℕ) (left all : List Packet) : Type 0 where
  pub played : after_playing now (admits now.settings now.past c left).played ≡ after_playing before (admits before.settings before.past c all).played
  pub closed : (admits now.settings now.past c left).closed ≡ (admits before.settings before.past c all).closed

-- none was admitted yet
pub admitting_start : {A : Type 0} (v : Playing A) (c : ℕ) (left all : List Packet) → left ≡ all → IsAdmitting v v c left all
admitting_start v c left all whole = record {
  played = ap (λ (ds : List Packet). after_playing v (admits v.settings v.past c ds).played) whole;
  closed = ap (λ (ds : List Packet). (admits v.settings v.past c ds).closed) whole;
}

-- the next descriptor is admitted, and the connection is live
pub admitting_more : {A : Type 0} (before now : Playing A) (c : ℕ) (d : Packet) (left all : List Packet) → is_not_live (answer now.settings now.past (Admit c d)) ≡ false
    → IsAdmitting before now c (d ∷ left) all → IsAdmitting before (after_playing now (happens now.settings now.past (Admit c d))) c left all
admitting_more before now c d left all live so_far =
    let here = happens now.settings now.past (Admit c d) in
    let later = admits now.settings here.past c left in
    let both : admits now.settings now.past c (d ∷ left) ≡ record { played = followed here later.played; closed = later.closed } = rw live refl in
    record {
      played = after_playing_both now here later.played ∙ ap (λ (a : Admits _). after_playing now a.played) (sym both) ∙ so_far.played;
      closed = ap (λ (a : Admits _). a.closed) (sym both) ∙ so_far.closed;
    }

-- the next descriptor finds the connection closed
pub admitting_closed : {A : Type 0} (before now : Playing A) (c : ℕ) (d : Packet) (left all : List Packet) → is_not_live (answer now.settings now.past (Admit c d)) ≡ true
    → IsAdmitting before now c (d ∷ left) all
    → HasAdmitted true before (after_playing now (happens now.settings now.past (Admit c d))) (admits before.settings before.past c all)
admitting_closed before now c d left all gone so_far =
    let here = happens now.settings now.past (Admit c d) in
    let both : admits now.settings now.past c (d ∷ left) ≡ record { played = here; closed = true } = rw gone refl in
    record {
      played = ap (λ (a : Admits _). after_playing now a.played) (sym both) ∙ so_far.played;
      found = ap (λ (a : Admits _). a.closed) (sym both) ∙ so_far.closed;
    }

-- none is left
pub admitting_all : {A : Type 0} (before now : Playing A) (c : ℕ) (all : List Packet) → IsAdmitting before now c [] all
    → HasAdmitted false before now (admits before.settings before.past c all)
admitting_all before now c all so_far = record { played = sym (after_playing_nothing now) ∙ so_far.played; found = so_far.closed }

-- none of those that were left is
pub admitting_done : {A : Type 0} (before now : Playing A) (c : ℕ) (left all : List Packet) → length left ≡ 0 → IsAdmitting before now c left all
    → HasAdmitted false before now (admits before.settings before.past c all)
admitting_done before now c [] all none so_far = admitting_all before now c all so_far
admitting_done before now c (d ∷ left) all none so_far = absurd (omega (arith, none))

-- the next descriptor was admitted, with this outcome
module _ {A : Type 0} (before now after : Playing A) (c : ℕ) (d : Packet) (here left all : List Packet) (o : Outcome) (next : here ≡ d ∷ left) (so_far : IsAdmitting before now c here all)
    (outcome : IsOutcome o (answer now.settings now.past (Admit c d))) (done : after ≡ after_playing now (happens now.settings now.past (Admit c d))) where
  from_here : IsAdmitting before now c (d ∷ left) all
  from_here = subst (λ (ds : List Packet). IsAdmitting before now c ds all) next so_far

  -- the connection is live
  pub admitted_one : o.is_not_live ≡ false → IsAdmitting before after c left all
  admitted_one live =
      subst (λ (v : Playing A). IsAdmitting before v c left all) (sym done)
      (admitting_more before now c d left all (sym outcome.not_live ∙ live) from_here)

  -- the connection is closed
  pub admitted_last : o.is_not_live ≡ true → HasAdmitted true before after (admits before.settings before.past c all)
  admitted_last gone =
      subst (λ (v : Playing A). HasAdmitted true before v (admits before.settings before.past c all)) (sym done)
      (admitting_closed before now c d left all (sym outcome.not_live ∙ gone) from_here)
