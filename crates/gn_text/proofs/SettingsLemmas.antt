-- Numbers within their limits, and fields that are too few or too many.
use Rattle.std.proofs.Common.{◌≡◌, ◌<◌, ◌≤◌, nat_le, ℕ, List, [], ◌∷◌, length, refl, Bool, true, false, if◌then◌else◌, arith, Option, Some, None}
use Rattle.std.proofs.lemmas.Bool.Decides.{nat_tests}
use Rattle.gn_rules.specs.Limits.{AreWithin, IsWithin, most}
use Rattle.gn_rules.specs.Settings.{IsFirstOut, IsIn}
use Rattle.gn_rules.specs.declared.config.Config.{Config}
use Rattle.gn_rules.specs.declared.config.Field.{Field}
use Rattle.gn_rules.specs.declared.config.Field.TheVariants.{Neighbours, Seen, Servents, Stage, Out, Steps, Crowd}
use Rattle.gn_rules.specs.declared.limits.Numbers.{Numbers}
use Rattle.gn_text.specs.Settings.{is_within, are_within, each_within, numbers_parsed, numbers_within, servent_parsed}
use Rattle.gn_numbers.specs.declared.version.Version.{Version}
use Rattle.gn_text.proofs.ConfigLemmas.{passed}

within : (n limit : ℕ) → IsWithin n limit → is_within n limit ≡ true
within n limit h = grind (arith, nat_tests)

-- up to a limit
up_to : (n limit : ℕ) → n ≤ limit → nat_le n limit ≡ true
up_to n limit h = grind (arith, nat_tests)

-- numbers within their limits pass the test
pub all_within : (n : Numbers) → AreWithin n → are_within n ≡ true
all_within n are =
    rw (
      within n.neighbours most.neighbours are.neighbours,
      within n.seen most.seen are.seen,
      within n.servents most.servents are.servents,
      within n.stage most.stage are.stage,
      within n.out most.out are.out,
      within n.steps most.steps are.steps,
      up_to n.life most.life are.life,
      up_to n.crowd most.crowd are.crowd,
    ) refl

-- the numbers of a configuration are within their limits
pub config_within : (s : Config) → are_within s.numbers ≡ true
config_within s = all_within s.numbers s.within

-- numbers within their limits are taken
pub taken : (n : Numbers) → AreWithin n → Some n ≡ numbers_within n
taken n are = rw (all_within n are) refl

-- where all are within their limits, the number of this name is
each_in : (field : Field) (n : Numbers) → AreWithin n → IsIn field n
each_in Neighbours n are = are.neighbours
each_in Seen n are = are.seen
each_in Servents n are = are.servents
each_in Stage n are = are.stage
each_in Out n are = are.out
each_in Steps n are = are.steps
each_in Crowd n are = are.crowd

tested : (n : Numbers) (b : Bool) → are_within n ≡ b → ¬ AreWithin n → None ≡ (if b then Some n else None)
tested n true e out = absurd (out (passed n e))
tested n false e out = refl

-- numbers of which one is out of its limit aren't taken
pub not_taken : (n : Numbers) (field : Field) → IsFirstOut field n → None ≡ numbers_within n
not_taken n field first = tested n (are_within n) refl (λ are. first.1 (each_in field n are))

pub other_fields : (fields : List (List ℕ)) → ¬ (length fields ≡ 5) → None ≡ servent_parsed fields
other_fields [] h = refl
other_fields (a ∷ []) h = refl
other_fields (a ∷ b ∷ []) h = refl
other_fields (a ∷ b ∷ c ∷ []) h = refl
other_fields (a ∷ b ∷ c ∷ d ∷ []) h = refl
other_fields (a ∷ b ∷ c ∷ d ∷ e ∷ []) h = absurd (h refl)
other_fields (a ∷ b ∷ c ∷ d ∷ e ∷ f ∷ more) h = refl

pub few_fields : (version : Version) (fields : List (List ℕ)) → length fields < 6 → None ≡ numbers_parsed version fields
few_fields version [] h = refl
few_fields version (a ∷ []) h = refl
few_fields version (a ∷ b ∷ []) h = refl
few_fields version (a ∷ b ∷ c ∷ []) h = refl
few_fields version (a ∷ b ∷ c ∷ d ∷ []) h = refl
few_fields version (a ∷ b ∷ c ∷ d ∷ e ∷ []) h = refl
few_fields version (a ∷ b ∷ c ∷ d ∷ e ∷ f ∷ more) h = absurd (omega arith)

-- where the numbers after the sixth are missing there are none
pub later_missing : (k n m t w h : Option ℕ) → None ≡ each_within k n m t w h None
later_missing None n m t w h = refl
later_missing (Some k) None m t w h = refl
later_missing (Some k) (Some n) None t w h = refl
later_missing (Some k) (Some n) (Some m) None w h = refl
later_missing (Some k) (Some n) (Some m) (Some t) None h = refl
later_missing (Some k) (Some n) (Some m) (Some t) (Some w) None = refl
later_missing (Some k) (Some n) (Some m) (Some t) (Some w) (Some h) = refl
