-- The matching bytes of a greeting and a stream, and the states that they lead to.
use Rattle.std.proofs.Common.{◌≡◌, ◌≢◌, ℕ, zero, suc, ◌+◌, ◌<◌, ◌≤◌, Bool, true, false, cond, List, [], ◌∷◌, ◌++◌, length, get_or, take, drop, refl, sym, ap, ◌∙◌, arith, inl, inr, nat_eq, length-drop}
use Rattle.std.proofs.lemmas.Grind.{common_steps}
use Rattle.std.proofs.lemmas.List.{take-append-drop, take_all}
use Rattle.std.proofs.lemmas.Bool.Decides.{nat_tests, Decides-eqb}
use Rattle.std.proofs.Math.Nat.{eq-or-lt_of_le}
use Rattle.std.proofs.lemmas.List.Sums.{common_prefix_len-le}
use Rattle.gn_shake.specs.declared.shake.ShakeState.{ShakeState}
use Rattle.gn_shake.specs.declared.shake.ShakeState.TheVariants.{More, Done, Refused}
use Rattle.gn_shake.specs.Shaking.{matching}
use Rattle.gn_shake.specs.Greeting.{greeting_state, IsAccepted, IsRefused, IsState, GreetingIsKnown}

pub matching-le : (g s : List ℕ) → (matching g s ≤ length g) × (matching g s ≤ length s)
matching-le g s = common_prefix_len-le nat_eq g s

-- past the end of the stream nothing matches
pub matching_past : (g s : List ℕ) (i : ℕ) → length s ≤ i → matching (drop i g) (drop i s) ≡ 0
matching_past g s i h =
    let bound = (matching-le (drop i g) (drop i s)).1 in
    let size = length-drop i s in
    omega arith

-- where all of the stream matches, a piece goes on with the rest of the greeting
pub matching-append : (g s p : List ℕ) → matching g s ≡ length s → matching g (s ++ p) ≡ length s + matching (drop (length s) g) p
matching-append [] [] p e = grind (arith, common_steps)
matching-append [] (y ∷ ys) p e = grind (arith, common_steps)
matching-append (x ∷ xs) [] p e = grind (arith, common_steps)
matching-append (x ∷ xs) (y ∷ ys) p e = grind (arith, nat_tests, matching-append xs ys p)

-- where a byte of the stream doesn't match, no piece changes that
pub matching-stops : (g s p : List ℕ) → matching g s < length s → matching g (s ++ p) ≡ matching g s
matching-stops [] [] p e = refl
matching-stops [] (y ∷ ys) p e = refl
matching-stops (x ∷ xs) [] p e = grind (arith, common_steps)
matching-stops (x ∷ xs) (y ∷ ys) p e = grind (arith, nat_tests, matching-stops xs ys p)

-- one byte more that may match
same_step : (b : Bool) (x y m : ℕ) (xs ys : List ℕ) → (b ≡ true → x ≡ y) → take m xs ≡ take m ys
    → take (cond b (1 + m) 0) (x ∷ xs) ≡ take (cond b (1 + m) 0) (y ∷ ys)
same_step true x y m xs ys same e =
    let more : 1 + m ≡ suc m = omega arith in
    rw more (rw (same refl, e) refl)
same_step false x y m xs ys same e = refl

-- what matches is the same on both sides
pub matching-same : (g s : List ℕ) → take (matching g s) g ≡ take (matching g s) s
matching-same [] [] = refl
matching-same [] (y ∷ ys) = refl
matching-same (x ∷ xs) [] = refl
matching-same (x ∷ xs) (y ∷ ys) =
    same_step (nat_eq x y) x y (matching xs ys) xs ys (Decides-eqb x y).0 (matching-same xs ys)

-- a beginning of the greeting matches it
pub matching-head : (g : List ℕ) (n : ℕ) → n ≤ length g → matching g (take n g) ≡ n
matching-head [] n h = omega arith
matching-head (x ∷ xs) zero h = refl
matching-head (x ∷ xs) (suc n) h = grind (arith, nat_tests, common_steps, matching-head xs n)

-- a place where the two differ lies past what matches
pub differs_past : (g s : List ℕ) (i : ℕ) → i < length g → i < length s → get_or g i 0 ≢ get_or s i 0 → matching g s ≤ i
differs_past [] s i hg hs d = omega arith
differs_past (x ∷ xs) [] i hg hs d = omega arith
differs_past (x ∷ xs) (y ∷ ys) zero hg hs d = grind (arith, nat_tests)
differs_past (x ∷ xs) (y ∷ ys) (suc i) hg hs d = grind (arith, nat_tests, common_steps, differs_past xs ys i)

-- where neither ends, the two differ after what matches
pub differs_after : (g s : List ℕ) → matching g s < length g → matching g s < length s → get_or g (matching g s) 0 ≢ get_or s (matching g s) 0
differs_after [] s hg hs = absurd (omega arith)
differs_after (x ∷ xs) [] hg hs = absurd (omega arith)
differs_after (x ∷ xs) (y ∷ ys) hg hs = grind (arith, nat_tests, common_steps, differs_after xs ys)

-- the states by what matches
pub state_done : (g s : List ℕ) → matching g s ≡ length g → greeting_state g s ≡ Done
state_done g s e = grind (arith, nat_tests)

pub state_more : (g s : List ℕ) → matching g s ≡ length s → length s < length g → greeting_state g s ≡ More
state_more g s e h = grind (arith, nat_tests)

pub state_refused : (g s : List ℕ) → matching g s < length g → matching g s < length s → greeting_state g s ≡ Refused
state_refused g s hg hs = grind (arith, nat_tests)

-- the three cases of a stream
pub data Standing (g s : List ℕ) : Type 0 where
  ended : matching g s ≡ length g → greeting_state g s ≡ Done → Standing g s
  going : matching g s ≡ length s → length s < length g → greeting_state g s ≡ More → Standing g s
  broken : matching g s < length g → matching g s < length s → greeting_state g s ≡ Refused → Standing g s

pub standing : (g s : List ℕ) → Standing g s
standing g s =
    let le = matching-le g s in
    elim (eq-or-lt_of_le le.0) [
      | inl e ↦ ended e (state_done g s e)
      | inr h ↦ elim (eq-or-lt_of_le le.1) [
        | inl e ↦ going e (omega arith) (state_more g s e (omega arith))
        | inr k ↦ broken h k (state_refused g s h k)
      ]
    ]

-- an accepted stream matches the whole greeting
accepted_matches : (g rest : List ℕ) → matching g (g ++ rest) ≡ length g
accepted_matches [] rest = refl
accepted_matches (x ∷ xs) rest = grind (arith, nat_tests, common_steps, accepted_matches xs rest)

-- and a stream that matches all of it is accepted
matches_accepted : (g s : List ℕ) → matching g s ≡ length g → IsAccepted g s
matches_accepted g s e =
    let head : g ≡ take (length g) s =
    sym (take_all (length g) g (omega arith)) ∙ ap (λ n. take n g) (sym e) ∙ matching-same g s ∙ ap (λ n. take n s) e in
    (drop (length g) s, sym (ap (λ xs. xs ++ drop (length g) s) head ∙ take-append-drop (length g) s))

accepted_full : (g s : List ℕ) → IsAccepted g s → matching g s ≡ length g
accepted_full g s (rest, e) = rw e (accepted_matches g rest)

refused_short : (g s : List ℕ) → IsRefused g s → (matching g s < length g) × (matching g s < length s)
refused_short g s (i, hg, hs, d) =
    let past = differs_past g s i hg hs d in (omega arith, omega arith)

-- the function gives a state that the stream has
pub known : (g s : List ℕ) → IsState g s (greeting_state g s)
known g s = elim (standing g s) [
  | ended e is ↦ rw is (matches_accepted g s e)
  | going e h is ↦ rw is (
    (λ accepted. let full = accepted_full g s accepted in absurd (omega arith)),
    (λ refused. let short = refused_short g s refused in absurd (omega arith)),
  )
  | broken hg hs is ↦ rw is (matching g s, hg, hs, differs_after g s hg hs)
]

-- and no other
pub only : (g s : List ℕ) (state : ShakeState) → IsState g s state → state ≡ greeting_state g s
only g s Done accepted = sym (state_done g s (accepted_full g s accepted))
only g s Refused refused = let short = refused_short g s refused in sym (state_refused g s short.0 short.1)
only g s More neither = elim (standing g s) [
  | ended e is ↦ absurd (neither.0 (matches_accepted g s e))
  | going e h is ↦ sym is
  | broken hg hs is ↦ absurd (neither.1 (matching g s, hg, hs, differs_after g s hg hs))
]

pub greeting_is_known : GreetingIsKnown
greeting_is_known g s state = (only g s state, λ e. rw e (known g s))
