-- A router that made no more steps than it remembers entries remembers all.
use Rattle.std.proofs.Common.{ℕ, zero, suc, ◌≤◌, List, [], ◌∷◌, length, Option, Some, None, arith}
use Rattle.std.specs.Option.{option_to_list}
use Rattle.std.proofs.lemmas.List.{length-append}
use Rattle.gn_rules.specs.declared.config.Config.{Config}
use Rattle.gn_rules.specs.declared.receipt.Step.{Step}
use Rattle.gn_rules.specs.SeenEntries.{entry_of, seen_entries}
use Rattle.gn_paths.specs.Networks.{FloodsEnd, IsNetwork, RemembersAll}
use Rattle.gn_witness.specs.Pair.{Ends, pair}

one_at_most : {X : Type 0} (o : Option X) → length (option_to_list o) ≤ 1
one_at_most None = omega arith
one_at_most (Some x) = omega arith

-- a step keeps one entry at most
pub kept_within : {A : Type 0} (past : List (Step A)) → length (seen_entries past) ≤ length past
kept_within [] = omega arith
kept_within {A} (step ∷ past) =
    omega (arith, length-append (option_to_list (entry_of past step.event step.reply)) (seen_entries past), one_at_most (entry_of past step.event step.reply), kept_within past)

module _ {A : Type 0} (law : FloodsEnd A) (s : Config) (first second : List (Step A)) (c d : ℕ) where
  each : length (seen_entries first) ≤ s.numbers.seen → length (seen_entries second) ≤ s.numbers.seen → (i : ℕ) → RemembersAll (pair s first c second d) i
  each one other zero = one
  each one other (suc zero) = other
  each one other (suc (suc i)) = omega arith

  pub flood_ends : length (seen_entries first) ≤ s.numbers.seen → length (seen_entries second) ≤ s.numbers.seen → IsNetwork (pair s first c second d) → Ends s first c second d
  flood_ends one other net =
      record {
        joined = net;
        remembers = each one other;
        once = λ key end kept. law.once (pair s first c second d) key end net kept (each one other end.0);
      }
