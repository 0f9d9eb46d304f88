-- An actor's receipts stand in the history by their indices.
use Rattle.std.proofs.Common.{◌≡◌, ◌≤◌, ◌<◌, ◌+◌, ◌==◌, ℕ, zero, suc, true, false, not, cond, nat_lt, List, [], ◌∷◌, length, get_or, refl, ap, ◌∙◌, arith}
use Rattle.std.proofs.lemmas.Bool.{and_from, le-ltb}
use Rattle.std.proofs.lemmas.Map.Views.{exact_unsigned_eq}
use Rattle.gn_rules.specs.declared.receipt.Receipt.{Receipt}
use Rattle.gn_rules.specs.declared.receipt.Step.{Step}
use Rattle.gn_rules.specs.History.{mine, mine_from, step_of}
use Rattle.gn_laws.specs.Owners.{indices_ascend, ReceiptsInOrder}

-- where a receipt's step stands among steps of which the first has index i
record StandsAt {A : Type 0} (a i : ℕ) (steps : List (Step A)) (d : Step A) (r : Receipt A) : Type 0 where
  place : ℕ
  index_is : r.index ≡ i + place
  within : place < length steps
  is : get_or steps place d ≡ step_of a r

stands_from : {A : Type 0} (a i : ℕ) (steps : List (Step A)) (j : ℕ) (r : Receipt A) (d : Step A) → j < length (mine_from a i steps) → StandsAt a i steps d (get_or (mine_from a i steps) j r)
stands_from a i [] j r d below = absurd (omega (arith, below))
stands_from {A} a i (step ∷ steps) j r d below =
    let one : Receipt A = record { index = i; event = step.event; reply = step.reply } in
    let rest : (k : ℕ) → k < length (mine_from a (i + 1) steps) → StandsAt a i (step ∷ steps) d (get_or (mine_from a (i + 1) steps) k r) = λ k h. later k (stands_from a (i + 1) steps k r d h) in
    elim (step.actor == a) as (λ b. (step.actor == a) ≡ b → j < length (cond b (one ∷ mine_from a (i + 1) steps) (mine_from a (i + 1) steps)) → StandsAt a i (step ∷ steps) d (get_or (cond b (one ∷ mine_from a (i + 1) steps) (mine_from a (i + 1) steps)) j r)) [
      | true ↦ λ e h. here (exact_unsigned_eq step.actor a e) rest j h
      | false ↦ λ e h. rest j h
    ] refl below
  where
    later : (k : ℕ) → StandsAt a (i + 1) steps d (get_or (mine_from a (i + 1) steps) k r) → StandsAt a i (step ∷ steps) d (get_or (mine_from a (i + 1) steps) k r)
    later k at = record { place = suc at.place; index_is = omega (arith, at.index_is); within = omega (arith, at.within); is = at.is }

    here : step.actor ≡ a → ((k : ℕ) → k < length (mine_from a (i + 1) steps) → StandsAt a i (step ∷ steps) d (get_or (mine_from a (i + 1) steps) k r))
        → (j : ℕ) → j < length (record { index = i; event = step.event; reply = step.reply } ∷ mine_from a (i + 1) steps)
        → StandsAt a i (step ∷ steps) d (get_or (record { index = i; event = step.event; reply = step.reply } ∷ mine_from a (i + 1) steps) j r)
    here is rest zero h = record { place = 0; index_is = omega arith; within = omega arith; is = ap (λ n. record { actor = n; event = step.event; reply = step.reply }) is }
    here is rest (suc k) h = rest k (omega (arith, h))

ascend_from : {A : Type 0} (a low i : ℕ) (steps : List (Step A)) → low ≤ i → indices_ascend low (mine_from a i steps) ≡ true
ascend_from a low i [] under = refl
ascend_from {A} a low i (step ∷ steps) under =
    let next = ascend_from a (i + 1) (i + 1) steps (omega arith) in
    let skipped = ascend_from a low (i + 1) steps (omega (arith, under)) in
    elim (step.actor == a) as (λ b. indices_ascend low (cond b (record { index = i; event = step.event; reply = step.reply } ∷ mine_from a (i + 1) steps) (mine_from a (i + 1) steps)) ≡ true) [
      | true ↦ and_from (not (nat_lt i low)) (indices_ascend (i + 1) (mine_from a (i + 1) steps)) (ap not (le-ltb i low under)) next
      | false ↦ skipped
    ]

pub receipts_in_order : (A : Type 0) → ReceiptsInOrder A
receipts_in_order A steps a = record {
  stands = λ j r d below.
      let at = stands_from a 0 steps j r d below in
      let same : (get_or (mine steps a) j r).index ≡ at.place = at.index_is ∙ omega arith in
      (omega (arith, same, at.within), ap (λ n. get_or steps n d) same ∙ at.is);
  ascend = ascend_from a 0 0 steps (omega arith);
}
