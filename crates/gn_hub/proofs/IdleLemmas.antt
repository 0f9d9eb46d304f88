-- What was idle at a beginning of the steps was so.
use Rattle.std.proofs.Common.{◌≡◌, ◌≤◌, ◌==◌, ℕ, true, List, [], ◌∷◌, ◌++◌, length, reverse, take, refl, ap, ◌∙◌, subst, arith}
use mathlib.Core.List.{IsPrefix}
use Rattle.std.proofs.lemmas.List.{length-append}
use Rattle.gn_rules.specs.declared.receipt.Step.{Step}
use Rattle.gn_rules.specs.Flight.{flying}

-- nothing is in flight after these steps
abbrev pub IsIdle : {A : Type 0} → List (Step A) → Type 0
IsIdle steps = (length (flying (reverse steps)) == 0) ≡ true

take_first : {X : Type 0} (first more : List X) → take (length first) (first ++ more) ≡ first
take_first [] more = refl
take_first (x ∷ first) more = ap (λ l. x ∷ l) (take_first first more)

-- nothing was in flight after a beginning of the steps
settled_then : {A : Type 0} (first more : List (Step A)) → IsIdle first → IsIdle (take (length first) (first ++ more))
settled_then first more idle = ap (λ steps. length (flying (reverse steps)) == 0) (take_first first more) ∙ idle

-- the same, by how many they were
pub idle_then : {A : Type 0} (at : ℕ) (seen steps : List (Step A)) → length seen ≡ at → IsIdle seen → IsPrefix seen steps → (at ≤ length steps) × IsIdle (take at steps)
idle_then at seen steps long idle began =
    let all = length-append seen began.0 in
    let same = ap length began.1 in (
      omega (arith, long, all, same),
      subst (λ n. IsIdle (take n steps)) long (subst (λ w. IsIdle (take (length seen) w)) began.1 (settled_then seen began.0 idle)),
    )
