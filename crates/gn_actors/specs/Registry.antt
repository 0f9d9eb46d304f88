-- The actors of a run: who is out, and the receipts of those that came home.
use Rattle.std.specs.Prelude.{◌≡◌, ◌≤◌, ◌<◌, ◌+◌, ◌-◌, ◌^◌, ℕ, true, nat_lt, List, [], length, slice_index_or, slice_set}
use Rattle.std.specs.List.{list_all, sum_by}
use Rattle.gn_laws.specs.Owners.{AreFitting}
use Rattle.gn_rules.specs.declared.receipt.Receipt.{Receipt}
use Rattle.gn_rules.specs.declared.receipt.Step.{Step}
use Rattle.gn_rules.specs.History.{mine}
use Rattle.gn_actors.specs.ActorState.{ActorState}

-- the receipts of the actors by number, none of who is out or was never sent; how many are out; and a beginning of the history, in
-- which the receipts stand
pub record RegistryState (A : Type 0) : Type 0 where
  pub lists : List (List (Receipt A))
  pub out : ℕ
  pub seen : List (Step A)

abbrev pub registry_state : {A : Type 0} → List (List (Receipt A)) → ℕ → List (Step A) → RegistryState A
registry_state lists out seen = record { lists = lists; out = out; seen = seen }

-- what a registry has: so many parts and this amount of a ledger of `all` parts, where so many actors are out, of so many numbers
pub record IsRegistry {A : Type 0} (all here amount out numbers : ℕ) (lists : List (List (Receipt A))) (seen : List (Step A)) : Type 0 where
  pub parts : here + out ≡ all
  pub room : (2 ^ 33 ≤ all) × (out < 2 ^ 32)
  pub many : numbers ≡ length lists
  pub sum : amount ≡ sum_by (λ receipts. length receipts) lists
  -- each list fits the steps of its actor
  pub fit : (k : ℕ) → k < length lists → AreFitting seen k (slice_index_or lists k [])

-- nothing came home by this number
abbrev pub IsOut : {A : Type 0} → RegistryState A → ℕ → Type 0
IsOut r number = (number < length r.lists) × (slice_index_or r.lists number [] ≡ [])

-- one more is out
abbrev pub with_one_out : {A : Type 0} → RegistryState A → RegistryState A
with_one_out r = record r { out = r.out + 1 }

-- this actor is home, when so many steps were seen
abbrev pub with_home : {A : Type 0} → RegistryState A → ActorState A → List (Step A) → RegistryState A
with_home r me steps = registry_state (slice_set r.lists me.number me.receipts) (r.out - 1) steps

-- the receipts of each actor, by number, are its own steps, each once and in order; and no step is of anybody else
pub record AreWhole {A : Type 0} (steps : List (Step A)) (lists : List (List (Receipt A))) : Type 0 where
  pub own : (k : ℕ) → k < length lists → slice_index_or lists k [] ≡ mine steps k
  pub only : list_all (λ step. nat_lt step.actor (length lists)) steps ≡ true
