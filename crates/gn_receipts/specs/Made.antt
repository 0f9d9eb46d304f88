-- Receipts that are made of a history.
use Rattle.std.specs.Prelude.{◌≡◌, ◌<◌, ℕ, List, [], length, slice_index_or, Vec}
use Rattle.gn_rules.specs.declared.receipt.Receipt.{Receipt}
use Rattle.gn_rules.specs.declared.receipt.Step.{Step}
use Rattle.gn_rules.specs.History.{mine}

-- the receipt of a step with this index
abbrev pub receipt_at : {A : Type 0} → ℕ → Step A → Receipt A
receipt_at index step = record { index = index; event = step.event; reply = step.reply }

-- receipts as a list
abbrev pub receipt_list : {A : Type 0} → Vec (Receipt A) A → List (Receipt A)
receipt_list receipts = receipts.items

-- a list for each of so many actors: its receipts of these steps
pub record AreMade {A : Type 0} (count : ℕ) (steps : List (Step A)) (all : List (List (Receipt A))) : Type 0 where
  pub long : length all ≡ count
  pub each : (a : ℕ) → a < count → slice_index_or all a [] ≡ mine steps a
