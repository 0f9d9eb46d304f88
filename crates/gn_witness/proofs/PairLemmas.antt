-- Two routers that one link joins are a network.
use Rattle.std.proofs.Common.{◌≡◌, ◌==◌, ℕ, zero, suc, true, false, cond, List, Option, Some, None, refl, sym, ap, subst, ◌∙◌}
use Rattle.std.proofs.lemmas.Map.Views.{exact_unsigned_eq}
use Rattle.std.proofs.lemmas.Option.{same_Some}
use Rattle.gn_rules.specs.declared.config.Config.{Config}
use Rattle.gn_rules.specs.declared.receipt.Step.{Step}
use Rattle.gn_rules.specs.Answer.{IsLegal}
use Rattle.gn_rules.proofs.StepLemmas.{is_itself}
use Rattle.gn_paths.specs.Networks.{Carries, IsNetwork}
use Rattle.gn_witness.specs.Pair.{history_of, joined_by, pair}

-- what a connection is joined to, where it is the one that is joined
joined_to : (e c : ℕ) (end to : ℕ × ℕ) → cond {A = Option (ℕ × ℕ)} (e == c) (Some end) None ≡ Some to → (e ≡ c) × (end ≡ to)
joined_to e c end to h =
    elim (e == c) as (λ b. (e == c) ≡ b → cond {A = Option (ℕ × ℕ)} b (Some end) None ≡ Some to → (e ≡ c) × (end ≡ to)) [
      | true ↦ λ is s. (exact_unsigned_eq e c is, same_Some end to s)
      | false ↦ λ is s. absurd (cc)
    ] refl h

-- a connection is joined to what it is joined to
pub itself : (c : ℕ) (to : ℕ × ℕ) → cond {A = Option (ℕ × ℕ)} (c == c) (Some to) None ≡ Some to
itself c to = ap (λ b. cond {A = Option (ℕ × ℕ)} b (Some to) None) (is_itself c)

module _ {A : Type 0} (s : Config) (first second : List (Step A)) (c d : ℕ) where
  all_legal : IsLegal s first → IsLegal s second → (i : ℕ) → IsLegal s (history_of first second i)
  all_legal one other zero = one
  all_legal one other (suc zero) = other
  all_legal one other (suc (suc i)) = tt

  joined_back : (i e j k : ℕ) → joined_by c d i e ≡ Some (j, k) → joined_by c d j k ≡ Some (i, e)
  joined_back zero e j k h =
      let to = joined_to e c (1, d) (j, k) h in
      subst (λ (m : ℕ × ℕ). joined_by c d m.0 m.1 ≡ Some (0, e)) to.1 (itself d (0, c) ∙ ap (λ m. Some (0, m)) (sym to.0))
  joined_back (suc zero) e j k h =
      let to = joined_to e d (0, c) (j, k) h in
      subst (λ (m : ℕ × ℕ). joined_by c d m.0 m.1 ≡ Some (1, e)) to.1 (itself c (1, d) ∙ ap (λ m. Some (1, m)) (sym to.0))
  joined_back (suc (suc i)) e j k h = absurd (cc)

  joined_carry : Carries first c second d → Carries second d first c → (i e j k : ℕ) → joined_by c d i e ≡ Some (j, k)
      → Carries (history_of first second i) e (history_of first second j) k
  joined_carry there back zero e j k h =
      let to = joined_to e c (1, d) (j, k) h in
      subst (λ (m : ℕ × ℕ). Carries first e (history_of first second m.0) m.1) to.1 (subst (λ m. Carries first m second d) (sym to.0) there)
  joined_carry there back (suc zero) e j k h =
      let to = joined_to e d (0, c) (j, k) h in
      subst (λ (m : ℕ × ℕ). Carries second e (history_of first second m.0) m.1) to.1 (subst (λ m. Carries second m first c) (sym to.0) back)
  joined_carry there back (suc (suc i)) e j k h = absurd (cc)

  pub pair_is_network : IsLegal s first → IsLegal s second → Carries first c second d → Carries second d first c → IsNetwork (pair s first c second d)
  pair_is_network one other there back = record { legal = all_legal one other; both = joined_back; carries = joined_carry there back }
