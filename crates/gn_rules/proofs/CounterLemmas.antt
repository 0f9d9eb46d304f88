-- Each counter is the number of its steps, and together they are the number of all.
use Rattle.std.proofs.Common.{◌≡◌, ℕ, ◌+◌, ◌<◌, ◌≤◌, Bool, true, false, cond, List, [], ◌∷◌, get_or, length, map, set, sum, count_by, refl, sym, ap, ◌∙◌, arith}
use Rattle.std.proofs.lemmas.List.Sums.{count_by-le-length, length-filter, sum_by-cons, sum_by-set}
use Rattle.gn_rules.specs.declared.receipt.Step.{Step}
use Rattle.gn_rules.specs.declared.statistics.Counter.{Counter}
use Rattle.gn_rules.specs.declared.statistics.Counter.TheVariants.{Connected}
use Rattle.gn_rules.specs.declared.statistics.Stats.{Stats}
use Rattle.gn_rules.specs.Laws.{CountersAddUp, CountersCount}
use Rattle.gn_rules.specs.Statistics.{counter_of, counter_place, counters, is_same_counter, raised, stats_of, count_in}
use Rattle.gn_rules.proofs.StepLemmas.{map_agree}

-- what stands at a counter's place is its number, case by case
at_place : (k : Counter) (f : Counter → ℕ) → get_or (map f counters) (counter_place k) 0 ≡ f k
at_place Connected f = refl
at_place k f = refl

-- one more at a counter's place is one more of it, case by case
more_at_place : (j : Counter) (f : Counter → ℕ)
    → map (λ k. cond (is_same_counter j k) (f k + 1) (f k)) counters ≡ set (map f counters) (counter_place j) (get_or (map f counters) (counter_place j) 0 + 1)
more_at_place Connected f = refl
more_at_place j f = refl

-- no counter's place is past the last one's
place_within : (k : Counter) → counter_place k < 16
place_within Connected = omega arith
place_within k = omega arith

-- one item more is one more that passes the test, or none
count_more : {X : Type 0} (p : X → Bool) (x : X) (xs : List X) → count_by p (x ∷ xs) ≡ cond (p x) (count_by p xs + 1) (count_by p xs)
count_more p x xs = sum_by-cons (λ y. cond (p y) 1 0) x xs ∙ one_or_none (p x) (count_by p xs)
  where
    one_or_none : (b : Bool) (n : ℕ) → cond b 1 0 + n ≡ cond b (n + 1) n
    one_or_none true n = omega arith
    one_or_none false n = omega arith

-- one step more is one more of its counter
pub stats_more : {A : Type 0} (step : Step A) (past : List (Step A)) → stats_of (step ∷ past) ≡ raised (counter_of step.reply) (stats_of past)
stats_more {A} step past =
    let has : Counter → Step A → Bool = λ k step. is_same_counter (counter_of step.reply) k in
    let before : Counter → ℕ = λ k. count_by (has k) past in
    ap (λ (counts : List ℕ). record { counts = counts })
    (map_agree (λ k. count_by (has k) (step ∷ past)) (λ k. cond (has k step) (before k + 1) (before k)) (λ k. count_more (has k) step past) counters
    ∙ more_at_place (counter_of step.reply) before)

pub counters_count : (A : Type 0) → CountersCount A
counters_count A past k =
    at_place k (λ k. count_by (λ step. is_same_counter (counter_of step.reply) k) past)
    ∙ sym (length-filter (λ step. is_same_counter (counter_of step.reply) k) past)

-- no counter is above the number of steps
pub count_few : {A : Type 0} (past : List (Step A)) (k : Counter) → count_in k (stats_of past) ≤ length past
count_few past k =
    omega (
      arith,
      at_place k (λ k. count_by (λ step. is_same_counter (counter_of step.reply) k) past),
      count_by-le-length (λ step. is_same_counter (counter_of step.reply) k) past,
    )

all_counted : {A : Type 0} (past : List (Step A)) → sum ((stats_of past).counts) ≡ length past
all_counted [] = refl
all_counted (step ∷ past) =
    let n : Stats = stats_of past in
    let j : Counter = counter_of step.reply in
    omega (
      arith,
      ap (λ (n : Stats). sum n.counts) (stats_more step past),
      sum_by-set (λ x. x) n.counts (counter_place j) (count_in j n + 1) 0 (place_within j),
      all_counted past,
    )

pub counters_add_up : (A : Type 0) → CountersAddUp A
counters_add_up A past = all_counted past
