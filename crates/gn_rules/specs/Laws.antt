-- Laws of the definitions, in the words of the rules.
use Rattle.std.specs.Prelude.{◌≡◌, ℕ, true, List, [], ◌∷◌, length, drop, filter, sum, map, Result}
use Rattle.std.specs.List.{AllByRecursion}
use Rattle.std.specs.List.Sorted.{IsStrictlyIncreasing}
use Rattle.gn_rules.specs.declared.config.Config.{Config}
use Rattle.gn_rules.specs.declared.event.Event.{Event}
use Rattle.gn_rules.specs.declared.receipt.Receipt.{Receipt}
use Rattle.gn_rules.specs.declared.receipt.Step.{Step}
use Rattle.gn_rules.specs.declared.refusal.Refusal.{Refusal}
use Rattle.gn_rules.specs.declared.statistics.Counter.{Counter}
use Rattle.gn_rules.specs.Answer.{IsLegal}
use Rattle.gn_rules.specs.History.{live_connections}
use Rattle.gn_rules.specs.Output.{out, queued, takes}
use Rattle.gn_rules.specs.Runs.{Ran, had_memory}
use Rattle.gn_rules.specs.Statistics.{counter_of, counters, is_same_counter, stats_of, count_in}

-- in a legal history the output of c is all that was queued to it, without as many first packets as there are takes from c
abbrev pub OutputIsUntaken : Type 0 → Type 0
OutputIsUntaken A =
    (s : Config) (past : List (Step A)) (c : ℕ) → IsLegal s past → out past c ≡ drop (takes past c) (queued past c)

-- in a legal history the numbers of the live connections rise: each is below the next
abbrev pub LiveConnectionsRise : Type 0 → Type 0
LiveConnectionsRise A =
    (s : Config) (past : List (Step A)) → IsLegal s past → IsStrictlyIncreasing (live_connections past)

-- results that are equal up to the first that is out of memory, in either list
abbrev pub AgreeSoFar : {A : Type 0} → List (Result (Receipt A) Refusal) → List (Result (Receipt A) Refusal) → Type 0
AgreeSoFar [] [] = Unit {0}
AgreeSoFar (x ∷ xs) (y ∷ ys) = had_memory x ≡ true → had_memory y ≡ true → (x ≡ y) × AgreeSoFar xs ys
AgreeSoFar xs ys = ⊥

-- two runs of equal configurations, histories and events have equal results up to the first of either that is out of memory
abbrev pub RunsAgreeSoFar : Type 0 → Type 0
RunsAgreeSoFar A =
    (s : Config) (past : List (Step A)) (events : List (Event A)) (xs ys : List (Result (Receipt A) Refusal))
    (first second : List (Step A))
    → Ran s past events xs first → Ran s past events ys second → AgreeSoFar xs ys

-- a run that begins with a legal history ends with one, whatever was refused
abbrev pub RunsStayLegal : Type 0 → Type 0
RunsStayLegal A =
    (s : Config) (past : List (Step A)) (events : List (Event A)) (xs : List (Result (Receipt A) Refusal)) (after : List (Step A))
    → IsLegal s past → Ran s past events xs after → IsLegal s after

-- two runs of equal configurations, histories and events, neither of which was out of memory, have equal results and equal
-- histories
abbrev pub RunsAgree : Type 0 → Type 0
RunsAgree A =
    (s : Config) (past : List (Step A)) (events : List (Event A)) (xs ys : List (Result (Receipt A) Refusal))
    (first second : List (Step A))
    → Ran s past events xs first → Ran s past events ys second
    → AllByRecursion (λ x. had_memory x ≡ true) xs → AllByRecursion (λ y. had_memory y ≡ true) ys
    → (xs ≡ ys) × (first ≡ second)

-- the counters add up to the number of steps
abbrev pub CountersAddUp : Type 0 → Type 0
CountersAddUp A = (past : List (Step A)) → sum (map (λ k. count_in k (stats_of past)) counters) ≡ length past

-- each counter is the number of the steps whose replies count under it
abbrev pub CountersCount : Type 0 → Type 0
CountersCount A =
    (past : List (Step A)) (k : Counter)
    → count_in k (stats_of past) ≡ length (filter (λ step. is_same_counter (counter_of step.reply) k) past)
