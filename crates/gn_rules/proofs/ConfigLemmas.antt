-- A configuration is the one that its numbers and its servent make.
use Rattle.std.proofs.Common.{◌≡◌, ◌↔◌, ◌≤◌, ◌∙◌, Bool, IsTrue, ℕ, refl, ap, subst}
use Rattle.std.proofs.Math.Bridge.{le_prop}
use Rattle.gn_rules.specs.declared.config.Config.{Config}
use Rattle.gn_rules.specs.declared.config.Own.{Own}
use Rattle.gn_rules.specs.declared.limits.Numbers.{Numbers}
use Rattle.gn_rules.specs.Limits.{AreWithin, IsWithin}

-- a number is within its limit in one manner
within_is_one : {n limit : ℕ} (a b : IsWithin n limit) → a ≡ b
within_is_one {n} {limit} a b =
    ap (λ (least : 1 ≤ n). record { least = least; greatest = a.greatest }) (le_prop a.least b.least)
    ∙ ap (λ (greatest : n ≤ limit). record { least = b.least; greatest = greatest }) (le_prop a.greatest b.greatest)

-- so are all numbers
all_within_is_one : {n : Numbers} (a b : AreWithin n) → a ≡ b
all_within_is_one a b =
    rw (
      within_is_one a.neighbours b.neighbours,
      within_is_one a.seen b.seen,
      within_is_one a.servents b.servents,
      within_is_one a.stage b.stage,
      within_is_one a.out b.out,
      within_is_one a.steps b.steps,
      le_prop a.life b.life,
      le_prop a.crowd b.crowd,
    ) refl

-- a configuration is the one that these numbers and this servent make
abbrev IsMade : Config → Numbers → Own → Type 0
IsMade s numbers own = (within : AreWithin numbers) → s ≡ record { numbers = numbers; own = own; within = within }

made : (s : Config) → IsMade s s.numbers s.own
made s within = ap (λ (w : AreWithin s.numbers). record { numbers = s.numbers; own = s.own; within = w }) (all_within_is_one s.within within)

-- configurations of the same numbers and the same servent are equal
pub config_is_one : (s t : Config) → s.numbers ≡ t.numbers → s.own ≡ t.own → s ≡ t
config_is_one s t numbers own =
    subst (λ (o : Own). IsMade s t.numbers o) own (subst (λ (n : Numbers). IsMade s n s.own) numbers (made s)) t.within

-- configurations of the same numbers are equal exactly where their servents are
pub same_servents : (s t : Config) (same : Bool) → s.numbers ≡ t.numbers → (IsTrue same ↔ (s.own ≡ t.own)) → IsTrue same ↔ (s ≡ t)
same_servents s t same numbers own = (λ h. config_is_one s t numbers (own.0 h), λ e. own.1 (ap (λ (c : Config). c.own) e))
