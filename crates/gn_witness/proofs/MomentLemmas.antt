-- A link that carries at each moment.
use Rattle.std.proofs.Common.{◌≡◌, ◌==◌, ℕ, ◌+◌, ◌<◌, ◌≤◌, true, false, List, ◌++◌, take, drop, reverse, length, refl, sym, ap, subst, ◌∙◌, arith}
use Rattle.std.proofs.lemmas.List.{length-append, reverse-append, reverse-reverse, take_all}
use Rattle.std.proofs.lemmas.Grind.{common_steps}
use Rattle.std.proofs.lemmas.Map.Views.{exact_unsigned_eq}
use Rattle.std.proofs.Math.Seq.{take-append_seam}
use Rattle.gn_rules.specs.declared.receipt.Step.{Step}
use Rattle.gn_rules.proofs.PastLemmas.{past_length}
use Rattle.gn_paths.specs.Networks.{Carries, CarriesInTime}
use Rattle.gn_witness.specs.Pair.{HasMoment}
use Rattle.gn_witness.proofs.LinkLemmas.{parts}

-- a moment is given by how many steps there were
pub moment_at : {A : Type 0} (first : List (Step A)) (n c : ℕ) (earlier : List (Step A)) (d : ℕ) → Carries (reverse (take n first)) c earlier d
    → Carries earlier d (reverse (take n first)) c → HasMoment (reverse first) c earlier d
moment_at first n c earlier d there back = (reverse (drop n first), reverse (take n first), parts first n, there, back)

-- the steps before a moment are the first so many
cut : {X : Type 0} (xs later earlier : List X) → reverse xs ≡ later ++ earlier → reverse (take (length earlier) xs) ≡ earlier
cut {X} xs later earlier e =
    let whole : xs ≡ reverse earlier ++ reverse later = sym (reverse-reverse xs) ∙ ap reverse e ∙ reverse-append later earlier in
    let first : take (length (reverse earlier)) xs ≡ reverse earlier = ap (λ ys. take (length (reverse earlier)) ys) whole ∙ take-append_seam (reverse earlier) (reverse later) in
    ap (λ n. reverse (take n xs)) (sym (past_length earlier)) ∙ ap reverse first ∙ reverse-reverse earlier

-- and no more than all
cut_within : {X : Type 0} (xs later earlier : List X) → reverse xs ≡ later ++ earlier → length earlier ≤ length xs
cut_within xs later earlier e =
    let all : length xs ≡ length later + length earlier = sym (past_length xs) ∙ ap length e ∙ length-append later earlier in
    omega (arith, all)

-- what holds below a number and of it holds below the next
pub one_more : (P : ℕ → Type 0) (i : ℕ) → ((n : ℕ) → n < i → P n) → P i → (n : ℕ) → n < i + 1 → P n
one_more P i below here n h =
    elim (n == i) as (λ b. (n == i) ≡ b → P n) [
      | true ↦ λ e. subst P (sym (exact_unsigned_eq n i e)) here
      | false ↦ λ e. below n (differs n i e h)
    ] refl
  where
    differs : (n i : ℕ) → (n == i) ≡ false → n < i + 1 → n < i
    differs n i other h = grind (arith, common_steps)

pub none_below : (n : ℕ) → n < 0 → ⊥
none_below n h = omega (arith, h)

-- what holds of all first parts that a walk has seen, and of the whole, holds of each
each_part : {X : Type 0} (P : List X → Type 0) (xs : List X) (i : ℕ) → length xs ≤ i → ((n : ℕ) → n < i → P (take n xs)) → P xs → (n : ℕ) → n ≤ length xs → P (take n xs)
each_part P xs i seen before whole n h =
    one_more (λ k. P (take k xs)) (length xs) (λ k below. before k (omega (arith, seen, below))) (subst P (sym (take_all (length xs) xs (omega arith))) whole) n (omega (arith, h))

pub in_time : {A : Type 0} (first : List (Step A)) (c : ℕ) (second : List (Step A)) (d i : ℕ) → length second ≤ i
    → ((n : ℕ) → n < i → HasMoment (reverse first) c (reverse (take n second)) d) → HasMoment (reverse first) c (reverse second) d
    → CarriesInTime (reverse first) c (reverse second) d
in_time first c second d i seen before whole = λ later earlier e.
    subst (λ past. HasMoment (reverse first) c past d) (cut second later earlier e)
    (each_part (λ steps. HasMoment (reverse first) c (reverse steps) d) second i seen before whole (length earlier) (cut_within second later earlier e))
