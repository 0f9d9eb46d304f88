-- Numbers within their limits are those of a configuration.
use Rattle.std.proofs.Common.{◌≡◌, ℕ, Bool, true, false, List, [], ◌∷◌, refl, arith, if◌then◌else◌, Option, Some, None}
use Rattle.std.specs.Prelude.{codes, IfSome}
use Rattle.std.proofs.lemmas.Bool.Decides.{nat_tests}
use Rattle.gn_rules.specs.declared.config.Config.{Config}
use Rattle.gn_rules.specs.declared.config.Own.{Own}
use Rattle.gn_rules.specs.declared.limits.Numbers.{Numbers}
use Rattle.gn_rules.specs.Limits.{AreWithin}
use Rattle.gn_text.specs.Lines.{is_word}
use Rattle.gn_numbers.specs.Numbers.{number_of}
use Rattle.gn_text.specs.Settings.{are_within, config_of, each_within, numbers_parsed, settings_of}
use Rattle.gn_numbers.specs.declared.version.Later.{Later}
use Rattle.gn_numbers.specs.declared.version.Version.{Version}
use Rattle.gn_numbers.specs.Versions.{later_parsed}

-- the settings are those of a configuration
abbrev pub IsConfigured : Numbers × Own → Type 0
IsConfigured known = (s : Config) × (settings_of s ≡ known)

-- numbers passed the test of their limits
abbrev pub ArePassed : Numbers → Type 0
ArePassed n = are_within n ≡ true

-- numbers that passed the test are within their limits
pub passed : (n : Numbers) → ArePassed n → AreWithin n
passed n h = record {
  neighbours = record { least = grind (arith, nat_tests, h); greatest = grind (arith, nat_tests, h) };
  seen = record { least = grind (arith, nat_tests, h); greatest = grind (arith, nat_tests, h) };
  servents = record { least = grind (arith, nat_tests, h); greatest = grind (arith, nat_tests, h) };
  stage = record { least = grind (arith, nat_tests, h); greatest = grind (arith, nat_tests, h) };
  out = record { least = grind (arith, nat_tests, h); greatest = grind (arith, nat_tests, h) };
  steps = record { least = grind (arith, nat_tests, h); greatest = grind (arith, nat_tests, h) };
  life = grind (arith, nat_tests, h);
  crowd = grind (arith, nat_tests, h);
}

-- numbers within their limits are those of a configuration, with any servent
pub made : (n : Numbers) (own : Own) → ArePassed n → IsConfigured (n, own)
made n own h = (record { numbers = n; own = own; within = passed n h }, refl)

-- numbers that passed the test are within their limits
tested : (n : Numbers) (b : Bool) → are_within n ≡ b → IfSome (if b then Some n else None) ArePassed
tested n true e = e
tested n false e = _

-- what the fields say is within its limits
each : (k n m t w h : Option ℕ) (later : Option Later) → IfSome (each_within k n m t w h later) ArePassed
each None n m t w h later = _
each (Some k) None m t w h later = _
each (Some k) (Some n) None t w h later = _
each (Some k) (Some n) (Some m) None w h later = _
each (Some k) (Some n) (Some m) (Some t) None h later = _
each (Some k) (Some n) (Some m) (Some t) (Some w) None later = _
each (Some k) (Some n) (Some m) (Some t) (Some w) (Some h) None = _
each (Some k) (Some n) (Some m) (Some t) (Some w) (Some h) (Some later) =
    let numbers : Numbers = record { neighbours = k; seen = n; servents = m; stage = t; out = w; steps = h; life = later.life; crowd = later.crowd } in
    tested numbers (are_within numbers) refl

numbers_are_within : (version : Version) (fields : List (List ℕ)) → IfSome (numbers_parsed version fields) ArePassed
numbers_are_within version (k ∷ n ∷ m ∷ t ∷ w ∷ h ∷ later) =
    each (number_of k) (number_of n) (number_of m) (number_of t) (number_of w) (number_of h) (later_parsed version later)
numbers_are_within version fields = _

-- the numbers that a config line says are within their limits
pub config_is_within : (version : Version) (fields : List (List ℕ)) → IfSome (config_of version fields) ArePassed
config_is_within version [] = _
config_is_within version (field ∷ fields) =
    elim (is_word field (codes "config")) as (λ b. IfSome (if b then numbers_parsed version fields else None) ArePassed) [
      | true ↦ numbers_are_within version fields
      | false ↦ _
    ]
