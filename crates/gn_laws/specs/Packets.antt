-- Laws of packets: what was queued to a connection is what was taken from it and what waits.
--
-- In each law `past` is a history with its newest step first, as in the definitions of the rules.
use Rattle.std.specs.Prelude.{◌≡◌, ℕ, Bool, true, ◌&&◌, List, ◌++◌}
use Rattle.std.specs.List.{list_any}
use Rattle.gn_rules.specs.declared.config.Config.{Config}
use Rattle.gn_rules.specs.declared.receipt.Step.{Step}
use Rattle.gn_rules.specs.History.{closed_of, is_at, is_close}
use Rattle.gn_rules.specs.Answer.{IsLegal}
use Rattle.gn_rules.specs.Output.{out, queued, taken}

-- a step is Close(c), replied Closed(0)
abbrev pub is_drained : {A : Type 0} → List (Step A) → ℕ → Bool
is_drained past c = list_any (λ step. is_close c step.event && is_at 0 (closed_of step.reply)) past

-- in a legal history what was queued to c is what was taken from it and then what waits, in this order
abbrev pub QueuedIsTakenAndWaiting : Type 0 → Type 0
QueuedIsTakenAndWaiting A =
    (s : Config) (past : List (Step A)) (c : ℕ) → IsLegal s past → queued past c ≡ taken past c ++ out past c

-- in a legal history where a step Close(c) is replied Closed(0), the packets taken from c are all that were ever queued to
-- it, before and after that step
abbrev pub DrainedTookAll : Type 0 → Type 0
DrainedTookAll A =
    (s : Config) (past : List (Step A)) (c : ℕ) → IsLegal s past → is_drained past c ≡ true
    → taken past c ≡ queued past c
