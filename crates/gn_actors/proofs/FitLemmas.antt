-- Receipts that fit a history fit each longer one, and one more receipt fits with its step.
use Rattle.std.proofs.Common.{◌≡◌, ◌≤◌, ◌<◌, ◌+◌, ℕ, suc, true, not, nat_lt, List, [], ◌∷◌, ◌++◌, length, get_or, refl, sym, ◌∙◌, subst, arith, inl, inr}
use mathlib.Core.List.{IsPrefix}
use Rattle.std.proofs.lemmas.Bool.{and_parts, cases_lt, le-ltb}
use Rattle.std.proofs.lemmas.List.{get_or_push, get_or_append_left, length-append, length_push}
use Rattle.gn_rules.specs.declared.receipt.Receipt.{Receipt}
use Rattle.gn_rules.specs.declared.receipt.Step.{Step}
use Rattle.gn_rules.specs.History.{step_of}
use Rattle.gn_laws.specs.Owners.{AreFitting, indices_ascend}

-- receipts that fit steps fit them and more
pub fit_more : {A : Type 0} (steps more : List (Step A)) (a : ℕ) (rs : List (Receipt A)) → AreFitting steps a rs → AreFitting (steps ++ more) a rs
fit_more steps more a rs fits = record {
  stands = λ j r d below.
      let at = fits.stands j r d below in
      let long = length-append steps more in
      (omega (arith, at.0, long), get_or_append_left steps more d (get_or rs j r).index at.0 ∙ at.1);
  ascend = fits.ascend;
}

pub fit_longer : {A : Type 0} (steps longer : List (Step A)) (a : ℕ) (rs : List (Receipt A)) → IsPrefix steps longer → AreFitting steps a rs → AreFitting longer a rs
fit_longer steps longer a rs begun fits = subst (λ ys. AreFitting ys a rs) begun.1 (fit_more steps begun.0 a rs fits)

-- indices ascend, and none is n or more: then n may follow
ascend_push : {A : Type 0} (low n : ℕ) (rs : List (Receipt A)) (r : Receipt A) → low ≤ n → r.index ≡ n → ((j : ℕ) (d : Receipt A) → j < length rs → (get_or rs j d).index < n) → indices_ascend low rs ≡ true
    → indices_ascend low (rs ++ r ∷ []) ≡ true
ascend_push low n [] r least is below ascends = rw (le-ltb r.index low (omega (arith, least, is))) refl
ascend_push {A} low n (s ∷ rs) r least is below ascends =
    let parts = and_parts (not (nat_lt s.index low)) (indices_ascend (s.index + 1) rs) ascends in
    let here : s.index < n = below 0 s (omega arith) in
    rw parts.0 (ascend_push (s.index + 1) n rs r (omega (arith, here)) is (λ j d low'. below (suc j) d (omega (arith, low'))) parts.1)

-- one step more, with its receipt
pub fit_next : {A : Type 0} (steps : List (Step A)) (a : ℕ) (rs : List (Receipt A)) (r : Receipt A) → r.index ≡ length steps → AreFitting steps a rs → AreFitting (steps ++ step_of a r ∷ []) a (rs ++ r ∷ [])
fit_next {A} steps a rs r is fits =
    let after : List (Step A) = steps ++ step_of a r ∷ [] in
    let more : AreFitting after a rs = fit_more steps (step_of a r ∷ []) a rs fits in
    let long : length after ≡ length steps + 1 = length_push steps (step_of a r) in
    let wide : length (rs ++ r ∷ []) ≡ length rs + 1 = length_push rs r in
    record {
      stands = λ j s d below.
          elim (cases_lt j (length rs)) as (λ x. ((get_or (rs ++ r ∷ []) j s).index < length after) × (get_or after (get_or (rs ++ r ∷ []) j s).index d ≡ step_of a (get_or (rs ++ r ∷ []) j s))) [
            | inl old ↦
                rw (get_or_append_left rs (r ∷ []) s j old) (more.stands j s d old)
            | inr last ↦
                let at : get_or (rs ++ r ∷ []) j s ≡ r = get_or_push rs r s j (omega (arith, last, below, wide)) in
                rw at (omega (arith, is, long), get_or_push steps (step_of a r) d r.index (sym is))
          ];
      ascend = ascend_push 0 (length steps) rs r (omega arith) is (λ j d low. (fits.stands j d (step_of a r) low).0) fits.ascend;
    }

-- an actor's receipts fit after its step
pub fit_recorded : {A : Type 0} (seen before after : List (Step A)) (a : ℕ) (rs : List (Receipt A)) (r : Receipt A) → IsPrefix seen before → after ≡ before ++ step_of a r ∷ [] → r.index ≡ length before → AreFitting seen a rs
    → AreFitting after a (rs ++ r ∷ [])
fit_recorded seen before after a rs r begun is at fits = rw is (fit_next before a rs r at (fit_longer seen before a rs begun fits))
