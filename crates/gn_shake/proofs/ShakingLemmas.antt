-- One piece more of a stream.
use Rattle.std.proofs.Common.{◌≡◌, ◌≢◌, Bool, ℕ, ◌+◌, ◌-◌, subst, length-drop, ◌<◌, ◌≤◌, true, false, List, ◌++◌, length, take, drop, inl, inr, refl, sym, ap, ◌∙◌, arith, length-append}
use Rattle.std.proofs.Math.Seq.{take-add, take-length, take-append-add, drop-append-add}
use Rattle.std.proofs.Math.Nat.{eq-or-lt_of_le}
use Rattle.std.proofs.lemmas.List.{take_all, length-take-le, drop_all, take-append-le, append-nil}
use Rattle.gn_shake.specs.declared.shake.ShakeState.{ShakeState}
use Rattle.gn_shake.specs.declared.shake.ShakeState.TheVariants.{More, Done, Refused}
use Rattle.gn_shake.specs.Greeting.{greeting_state}
use Rattle.gn_shake.specs.Shaking.{Shaking, matching, is_refusal, answer_of, used_of, fed, shake_of, IsOneStream, PiecesAreOneStream}
use Rattle.gn_shake.proofs.GreetingLemmas.{matching-le, matching-append, matching-stops, matching-same, matching-head, state_done, state_more, state_refused, standing}
use Rattle.gn_shake.proofs.GreetingLemmas.Standing.{ended, going, broken}

-- a piece after the beginning of a greeting
pub matching_piece : (g p : List ℕ) (n : ℕ) → n ≤ length g → matching g (take n g ++ p) ≡ n + matching (drop n g) p
matching_piece g p n h =
    let size : length (take n g) ≡ n = length-take-le n g h in
    matching-append g (take n g) p (matching-head g n h ∙ sym size) ∙ rw size refl

-- what has come of the greeting, with what a piece has of it
pub take_piece : (g p : List ℕ) (n : ℕ) → take (n + matching (drop n g) p) g ≡ take n g ++ take (matching (drop n g) p) p
take_piece g p n = take-add n (matching (drop n g) p) g ∙ ap (λ xs. take n g ++ xs) (matching-same (drop n g) p)

-- what one piece does, by the parts of a greeting that isn't refused: the bytes matched before and those of the piece
pub record IsFeeding (k : Shaking) (g p : List ℕ) (n u : ℕ) (r : Bool) : Type 0 where
  pub fits : n + u ≤ length g
  pub used : u ≡ used_of k p
  pub done : n + u ≡ length g → record { greeting = g; matched = take (n + u) g; refused = r } ≡ fed k p
  pub done_answer : n + u ≡ length g → Done ≡ answer_of k p
  pub more : n + u ≢ length g → u ≡ length p → record { greeting = g; matched = take (n + u) g; refused = r } ≡ fed k p
  pub more_answer : n + u ≢ length g → u ≡ length p → More ≡ answer_of k p
  pub refused : n + u ≢ length g → u ≢ length p → record { greeting = g; matched = take (n + u) g; refused = true } ≡ fed k p
  pub refused_answer : n + u ≢ length g → u ≢ length p → Refused ≡ answer_of k p

-- what a piece makes of it, with the parts that are known
fed_is : (g p : List ℕ) (n u : ℕ) (state : ShakeState) → n ≤ length g → u ≡ matching (drop n g) p → state ≡ greeting_state g (take n g ++ p)
    → record { greeting = g; matched = take (n + u) g; refused = is_refusal state } ≡ fed (record { greeting = g; matched = take n g; refused = false }) p
fed_is g p n u state h u_is is =
    let size : length (take n g) ≡ n = length-take-le n g h in
    let parts : take (n + u) g ≡ take n g ++ take u p = ap (λ v. take (n + v) g) u_is ∙ take_piece g p n ∙ ap (λ v. take n g ++ take v p) (sym u_is) in
    let used : u ≡ matching (drop (length (take n g)) g) p = u_is ∙ ap (λ v. matching (drop v g) p) (sym size) in
    let P : List ℕ → ShakeState → Shaking = λ xs t. record { greeting = g; matched = xs; refused = is_refusal t } in
    ap (λ xs. P xs state) (parts ∙ ap (λ v. take n g ++ take v p) used) ∙ ap (λ t. P (take n g ++ take (matching (drop (length (take n g)) g) p) p) t) is

feeding_here : (g p : List ℕ) (n u : ℕ) → n ≤ length g → u ≡ matching (drop n g) p
    → IsFeeding (record { greeting = g; matched = take n g; refused = false }) g p n u false
feeding_here g p n u h u_is =
    let size : length (take n g) ≡ n = length-take-le n g h in
    let all : matching g (take n g ++ p) ≡ n + u = matching_piece g p n h ∙ ap (λ v. n + v) (sym u_is) in
    let total : length (take n g ++ p) ≡ n + length p = length-append (take n g) p ∙ ap (λ v. v + length p) size in
    let le = matching-le g (take n g ++ p) in
    let done : n + u ≡ length g → Done ≡ greeting_state g (take n g ++ p) = λ e. sym (state_done g (take n g ++ p) (all ∙ e)) in
    let more : n + u ≢ length g → u ≡ length p → More ≡ greeting_state g (take n g ++ p) =
    λ d e. sym (state_more g (take n g ++ p) (omega arith) (omega arith)) in
    let refused : n + u ≢ length g → u ≢ length p → Refused ≡ greeting_state g (take n g ++ p) =
    λ d e. sym (state_refused g (take n g ++ p) (omega arith) (omega arith)) in
    record {
      fits = omega arith;
      used = u_is ∙ ap (λ v. matching (drop v g) p) (sym size);
      done = λ e. fed_is g p n u Done h u_is (done e);
      done_answer = done;
      more = λ d e. fed_is g p n u More h u_is (more d e);
      more_answer = more;
      refused = λ d e. fed_is g p n u Refused h u_is (refused d e);
      refused_answer = refused;
    }

pub feeding : (k : Shaking) (g p : List ℕ) (n u : ℕ) (r : Bool) → record { greeting = g; matched = take n g; refused = r } ≡ k → r ≡ false → n ≤ length g
    → u ≡ matching (take (length g - n) (drop n g)) p → IsFeeding k g p n u r
feeding k g p n u r view fresh h u_is =
    let P : Bool → Shaking = λ b. record { greeting = g; matched = take n g; refused = b } in
    let rest : take (length g - n) (drop n g) ≡ drop n g = take_all (length g - n) (drop n g) (simp length-drop (omega arith)) in
    let here = feeding_here g p n u h (u_is ∙ ap (λ xs. matching xs p) rest) in
    subst (λ (b : Bool). IsFeeding k g p n u b) (sym fresh) (subst (λ (x : Shaking). IsFeeding x g p n u false) (sym (ap P fresh) ∙ view) here)

-- a stream that is accepted matches no more for a piece
ended_matches : (g s p : List ℕ) → matching g s ≡ length g → matching g (s ++ p) ≡ length g
ended_matches g s p e = elim (eq-or-lt_of_le (matching-le g s).1) [
  | inl full ↦ matching-append g s p full
      ∙ ap (λ xs. length s + matching xs p) (drop_all (length s) g (omega arith)) ∙ omega arith
  | inr short ↦ matching-stops g s p short ∙ e
]

-- a stream that is done matches the whole greeting
done_matches : (g s : List ℕ) → greeting_state g s ≡ Done → matching g s ≡ length g
done_matches g s done = elim (standing g s) [
  | ended e is ↦ e
  | going e h is ↦ cc
  | broken hg hs is ↦ cc
]

-- what a stream leaves, by the parts that are known of it
shake_is : (g s matched : List ℕ) (state : ShakeState) → take (matching g s) s ≡ matched → greeting_state g s ≡ state
    → shake_of g s ≡ record { greeting = g; matched = matched; refused = is_refusal state }
shake_is g s matched state part is =
    let P : List ℕ → ShakeState → Shaking = λ xs t. record { greeting = g; matched = xs; refused = is_refusal t } in
    ap (λ xs. P xs (greeting_state g s)) part ∙ ap (λ t. P matched t) is

ended_stream : (g s p : List ℕ) → matching g s ≡ length g → greeting_state g s ≡ Done → IsOneStream g s p
ended_stream g s p e is =
    let whole : take (matching g s) s ≡ g = sym (matching-same g s) ∙ ap (λ n. take n g) e ∙ take-length g in
    let stays : matching g (s ++ p) ≡ length g = ended_matches g s p e in
    let now : greeting_state g (s ++ p) ≡ Done = state_done g (s ++ p) stays in
    let here : shake_of g s ≡ record { greeting = g; matched = g; refused = false } = shake_is g s g Done whole is in
    let self : matching g g ≡ length g = ap (λ xs. matching g xs) (sym (take-length g)) ∙ matching-head g (length g) (omega arith) in
    let answer : greeting_state g (g ++ p) ≡ Done = state_done g (g ++ p) (ended_matches g g p self) in
    let none : matching (drop (length g) g) p ≡ 0 = ap (λ xs. matching xs p) (drop_all (length g) g (omega arith)) in
    let grown : take (matching g (s ++ p)) (s ++ p) ≡ g = sym (matching-same g (s ++ p)) ∙ ap (λ n. take n g) stays ∙ take-length g in
    record {
      after = ap (λ k. fed k p) here ∙ rw (answer, none) (simp append-nil) ∙ sym (shake_is g (s ++ p) g Done grown now);
      state = ap (λ k. answer_of k p) here ∙ answer ∙ sym now;
      used = ap (λ k. matching g s + used_of k p) here ∙ rw none (omega arith);
      rest = λ more _. cc;
      done = λ _. now;
      refused = λ other. cc;
    }

going_stream : (g s p : List ℕ) → matching g s ≡ length s → greeting_state g s ≡ More → IsOneStream g s p
going_stream g s p e is =
    let whole : take (matching g s) s ≡ s = ap (λ n. take n s) e ∙ take-length s in
    let u = matching (drop (length s) g) p in
    let grown : matching g (s ++ p) ≡ length s + u = matching-append g s p e in
    let here : shake_of g s ≡ record { greeting = g; matched = s; refused = false } = shake_is g s s More whole is in
    let part : take (matching g (s ++ p)) (s ++ p) ≡ s ++ take u p = ap (λ n. take n (s ++ p)) grown ∙ take-append-add s p u in
    record {
      after = ap (λ k. fed k p) here ∙ sym (shake_is g (s ++ p) (s ++ take u p) (greeting_state g (s ++ p)) part refl);
      state = ap (λ k. answer_of k p) here;
      used = ap (λ k. matching g s + used_of k p) here ∙ rw e (sym grown);
      rest = λ _ done. ap (λ k. drop (used_of k p) p) here
          ∙ sym (drop-append-add s p u) ∙ ap (λ n. drop n (s ++ p)) (sym grown ∙ done_matches g (s ++ p) done);
      done = λ other. cc;
      refused = λ other. cc;
    }

broken_stream : (g s p : List ℕ) → matching g s < length g → matching g s < length s → greeting_state g s ≡ Refused → IsOneStream g s p
broken_stream g s p hg hs is =
    let stays : matching g (s ++ p) ≡ matching g s = matching-stops g s p hs in
    let size : length (s ++ p) ≡ length s + length p = length-append s p in
    let now : greeting_state g (s ++ p) ≡ Refused = state_refused g (s ++ p) (omega arith) (omega arith) in
    let same : take (matching g (s ++ p)) (s ++ p) ≡ take (matching g s) s = ap (λ n. take n (s ++ p)) stays ∙ take-append-le (matching g s) s p (omega arith) in
    let here : shake_of g s ≡ record { greeting = g; matched = take (matching g s) s; refused = true } = shake_is g s (take (matching g s) s) Refused refl is in
    record {
      after = ap (λ k. fed k p) here ∙ (simp append-nil) ∙ sym (shake_is g (s ++ p) (take (matching g s) s) Refused same now);
      state = ap (λ k. answer_of k p) here ∙ sym now;
      used = ap (λ k. matching g s + used_of k p) here ∙ (omega arith);
      rest = λ more _. cc;
      done = λ other. cc;
      refused = λ _. now;
    }

pub pieces_are_one_stream : PiecesAreOneStream
pieces_are_one_stream g s p = elim (standing g s) [
  | ended e is ↦ ended_stream g s p e is
  | going e h is ↦ going_stream g s p e is
  | broken hg hs is ↦ broken_stream g s p hg hs is
]
