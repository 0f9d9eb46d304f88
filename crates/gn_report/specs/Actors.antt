-- The actors of a run, by their numbers.
use Rattle.std.specs.Prelude.{◌≡◌, ◌<◌, ◌+◌, ℕ, Bool, false, List, [], ◌∷◌, ◌++◌, length, map, slice_index_or}
use Rattle.std.specs.List.{list_all, slice_get}
use Rattle.std.specs.Option.{option_map_or}
use Rattle.gn_rules.specs.declared.receipt.Receipt.{Receipt}
use Rattle.gn_rules.specs.declared.receipt.Step.{Step}
use Rattle.gn_shake.specs.declared.role.Role.{Role}
use Rattle.gn_shake.specs.Greeting as greeting
use Rattle.gn_rules.specs.History.{mine, step_of}
use Rattle.gn_actors.specs.declared.who.Numbering.TheVariants.{Known}
use Rattle.gn_actors.specs.declared.who.Who.{Who}
use Rattle.gn_actors.specs.declared.who.Who.TheVariants.{House}
use Rattle.gn_actors.specs.Who.{number_of}
use Rattle.gn_report.specs.declared.report.Report.{Report}

-- the number of an actor in a run that has as many links and workers as the report. The house has the greatest
abbrev pub number_in : {Rd W A : Type 0} → Report Rd W A → Who → ℕ
number_in report who = number_of (Known (length report.links.items) (length report.workers.items)) who

-- the receipts of each actor, in the order of the actors' numbers
abbrev pub receipts_of : {Rd W A : Type 0} → Report Rd W A → List (List (Receipt A))
receipts_of report =
    map (λ link. link.reader_receipts.items) report.links.items ++ (
    map (λ link. link.writer_receipts.items) report.links.items ++ (map (λ worker. worker.items) report.workers.items ++ report.house.items ∷ []))

-- a receipt stands at its index: the step there is actor a's, with the receipt's event and reply
pub record Stands {A : Type 0} (steps : List (Step A)) (a : ℕ) (r : Receipt A) : Type 0 where
  pub within : r.index < length steps
  pub is : (d : Step A) → slice_index_or steps r.index d ≡ step_of a r

-- each actor's receipts are its own steps, each once and in order
abbrev pub AreOwn : {Rd W A : Type 0} → Report Rd W A → Type 0
AreOwn report = (a : ℕ) → a < number_in report House + 1 → slice_index_or (receipts_of report) a [] ≡ mine report.history.items a

-- whether actor a is an awaited reader
abbrev pub is_awaited_reader : List Role → ℕ → Bool
is_awaited_reader roles a = option_map_or (greeting.is_awaited (list_all greeting.is_calling roles)) (slice_get roles a) false
