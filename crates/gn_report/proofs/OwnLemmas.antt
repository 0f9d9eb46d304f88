-- Receipts that are looked at one after the other: each stands at its index, and the indices ascend.
use Rattle.std.proofs.Common.{◌≡◌, ◌≤◌, ◌<◌, ◌+◌, ◌&&◌, ℕ, suc, true, not, nat_lt, List, [], ◌∷◌, length, drop, get_or, sym, ap, ◌∙◌, inl, inr, subst, arith, length-drop, drop-cons, add-one}
use Rattle.std.proofs.lemmas.Bool.{and_parts, cases_lt, le-ltb, lt-ltb}
use Rattle.std.proofs.lemmas.List.{get_or_default, nil_from_length}
use Rattle.gn_rules.specs.declared.receipt.Receipt.{Receipt}
use Rattle.gn_rules.specs.declared.receipt.Step.{Step}
use Rattle.gn_rules.specs.History.{step_of}
use Rattle.gn_laws.specs.Owners.{AreFitting, indices_ascend}
use Rattle.gn_report.specs.Actors.{Stands}

none_left : {X : Type 0} (n : ℕ) (xs : List X) → length xs ≤ n → drop n xs ≡ []
none_left n xs le = nil_from_length (drop n xs) (omega (arith, length-drop n xs))

next_left : {X : Type 0} (n : ℕ) (xs : List X) (x : X) → n < length xs → x ≡ get_or xs n x → drop n xs ≡ x ∷ drop (n + 1) xs
next_left n xs x below is = rw (add-one, drop-cons xs n x) (ap (λ y. y ∷ drop (suc n) xs) (sym is))

pub fits_all : {A : Type 0} (steps : List (Step A)) (a low n : ℕ) (receipts : List (Receipt A)) → length receipts ≤ n → indices_ascend 0 receipts ≡ indices_ascend low (drop n receipts)
    → ((j : ℕ) (r : Receipt A) → j < n → Stands steps a (get_or receipts j r))
    → AreFitting steps a receipts
fits_all steps a low n receipts done ascend stand = record {
  stands = λ j r d below. let s = stand j r (omega (arith, below, done)) in (s.within, s.is d);
  ascend = ascend ∙ ap (indices_ascend low) (none_left n receipts done);
}

pub ascends_on : {A : Type 0} (low n : ℕ) (receipts : List (Receipt A)) (r : Receipt A) → n < length receipts → r ≡ get_or receipts n r → low ≤ r.index
    → indices_ascend 0 receipts ≡ indices_ascend low (drop n receipts) → indices_ascend 0 receipts ≡ indices_ascend (r.index + 1) (drop (n + 1) receipts)
ascends_on low n receipts r below is high ascend =
    ascend ∙ ap (indices_ascend low) (next_left n receipts r below is)
    ∙ ap (λ b. not b && indices_ascend (r.index + 1) (drop (n + 1) receipts)) (le-ltb r.index low high)

pub not_below : {A : Type 0} (steps : List (Step A)) (a low n : ℕ) (receipts : List (Receipt A)) (r : Receipt A) → n < length receipts → r ≡ get_or receipts n r → r.index < low
    → indices_ascend 0 receipts ≡ indices_ascend low (drop n receipts) → AreFitting steps a receipts → ⊥
not_below steps a low n receipts r below is under ascend fits =
    let here : indices_ascend low (r ∷ drop (n + 1) receipts) ≡ true = sym (ap (indices_ascend low) (next_left n receipts r below is)) ∙ sym ascend ∙ fits.ascend in
    let parts = and_parts (not (nat_lt r.index low)) (indices_ascend (r.index + 1) (drop (n + 1) receipts)) here in
    let same : not true ≡ true = ap not (sym (lt-ltb r.index low under)) ∙ parts.0 in
    cc

pub stands_there : {A : Type 0} (steps : List (Step A)) (a n : ℕ) (receipts : List (Receipt A)) (r : Receipt A) → n < length receipts → r ≡ get_or receipts n r
    → AreFitting steps a receipts → Stands steps a r
stands_there {A} steps a n receipts r below is fits =
    let at : (d : Step A) → ((get_or receipts n r).index < length steps) × (get_or steps (get_or receipts n r).index d ≡ step_of a (get_or receipts n r)) = λ d. fits.stands n r d below in
    subst (λ x. Stands steps a x) (sym is) (record { within = (at (step_of a r)).0; is = λ d. (at d).1 })

pub stand_on : {A : Type 0} (steps : List (Step A)) (a n : ℕ) (receipts : List (Receipt A)) (r : Receipt A) → n < length receipts → r ≡ get_or receipts n r → Stands steps a r
    → ((j : ℕ) (q : Receipt A) → j < n → Stands steps a (get_or receipts j q))
    → (j : ℕ) (q : Receipt A) → j < n + 1 → Stands steps a (get_or receipts j q)
stand_on steps a n receipts r below is here before j q under =
    elim (cases_lt j n) as (λ x. Stands steps a (get_or receipts j q)) [
      | inl low ↦ before j q low
      | inr last ↦
          let at : n ≡ j = omega (arith, last, under) in
          let same : r ≡ get_or receipts n q = is ∙ get_or_default receipts n r q below in
          subst (λ i. Stands steps a (get_or receipts i q)) at (subst (λ x. Stands steps a x) same here)
    ]
