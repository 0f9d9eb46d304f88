-- Counts over a history, one step on.
use Rattle.std.proofs.Common.{◌≡◌, ℕ, ◌+◌, ◌<◌, ◌≤◌, Bool, true, false, cond, is_some, List, ◌∷◌, ◌++◌, filter, get_or, length, take, reverse, Option, Some, None, refl, sym, ap, ◌∙◌, arith, length-append}
use Rattle.std.specs.Option.{option_to_list}
use Rattle.std.proofs.lemmas.List.{take_all}
use Rattle.std.proofs.lemmas.List.Elements.{filter-append}
use Rattle.gn_rules.specs.declared.receipt.Step.{Step}
use Rattle.gn_rules.specs.History.{admitted_of, connected_of, is_take, connections}
use Rattle.gn_rules.specs.Flight.{tickets}
use Rattle.gn_rules.specs.Output.{takes}
use Rattle.gn_rules.proofs.PastLemmas.{past_more}
-- 1 where a test holds, as a number is made of it
pub use mir.Val.{bool_byte as one_if}

pub at_most_one : (b : Bool) → one_if b ≤ 1
at_most_one true = omega arith
at_most_one false = omega arith

one_or_none : (b : Bool) → one_if b ≡ cond b 1 0
one_or_none true = refl
one_or_none false = refl

pub one_given : (o : Option ℕ) → one_if (is_some o) ≡ length (option_to_list o)
one_given None = refl
one_given (Some n) = refl

-- what a step gives stands after what the steps before it gave
given_more : {A : Type 0} (given : List (Step A) → List ℕ) (gives : Step A → List ℕ) → ((step : Step A) (past : List (Step A)) → given (step ∷ past) ≡ given past ++ gives step)
    → (steps : List (Step A)) (i : ℕ) (step : Step A) (count more : ℕ) → i < length steps → step ≡ get_or steps i step
    → count ≡ length (given (reverse (take i steps))) → more ≡ length (gives step) → count + more ≡ length (given (reverse (take (i + 1) steps)))
given_more given gives grows steps i step count more h e is more_is =
    let longer : length (given (reverse (take (i + 1) steps))) ≡ length (given (reverse (take i steps)) ++ gives step) =
    ap (λ past. length (given past)) (past_more steps i step h e) ∙ ap length (grows step (reverse (take i steps))) in
    omega (arith, longer, length-append (given (reverse (take i steps))) (gives step), is, more_is)

pub tickets_more : {A : Type 0} (steps : List (Step A)) (i : ℕ) (step : Step A) (count more : ℕ) → i < length steps → step ≡ get_or steps i step
    → count ≡ length (tickets (reverse (take i steps))) → more ≡ one_if (is_some (admitted_of step.reply)) → count + more ≡ length (tickets (reverse (take (i + 1) steps)))
tickets_more {A} steps i step count more h e is more_is =
    given_more tickets (λ (x : Step A). option_to_list (admitted_of x.reply)) (λ x past. refl) steps i step count more h e is (more_is ∙ one_given (admitted_of step.reply))

pub tickets_more_of : {A : Type 0} (p : ℕ → Bool) (steps : List (Step A)) (i : ℕ) (step : Step A) (count more : ℕ) → i < length steps → step ≡ get_or steps i step
    → count ≡ length (filter p (tickets (reverse (take i steps)))) → more ≡ length (filter p (option_to_list (admitted_of step.reply)))
    → count + more ≡ length (filter p (tickets (reverse (take (i + 1) steps))))
tickets_more_of {A} p steps i step count more h e is more_is =
    given_more (λ past. filter p (tickets past)) (λ (x : Step A). filter p (option_to_list (admitted_of x.reply))) (λ x past. filter-append p (tickets past) (option_to_list (admitted_of x.reply)))
    steps i step count more h e is more_is

pub connections_more : {A : Type 0} (steps : List (Step A)) (i : ℕ) (step : Step A) (count more : ℕ) → i < length steps → step ≡ get_or steps i step
    → count ≡ length (connections (reverse (take i steps))) → more ≡ one_if (is_some (connected_of step.reply)) → count + more ≡ length (connections (reverse (take (i + 1) steps)))
connections_more {A} steps i step count more h e is more_is =
    given_more connections (λ (x : Step A). option_to_list (connected_of x.reply)) (λ x past. refl) steps i step count more h e is (more_is ∙ one_given (connected_of step.reply))

pub connections_more_of : {A : Type 0} (p : ℕ → Bool) (steps : List (Step A)) (i : ℕ) (step : Step A) (count more : ℕ) (made : Option ℕ) → i < length steps → step ≡ get_or steps i step
    → count ≡ length (filter p (connections (reverse (take i steps)))) → option_to_list made ≡ filter p (option_to_list (connected_of step.reply)) → more ≡ one_if (is_some made)
    → count + more ≡ length (filter p (connections (reverse (take (i + 1) steps))))
connections_more_of {A} p steps i step count more made h e is made_is more_is =
    given_more (λ past. filter p (connections past)) (λ (x : Step A). filter p (option_to_list (connected_of x.reply))) (λ x past. filter-append p (connections past) (option_to_list (connected_of x.reply)))
    steps i step count more h e is (more_is ∙ one_given made ∙ ap length made_is)

pub takes_more : {A : Type 0} (steps : List (Step A)) (i : ℕ) (step : Step A) (c count more : ℕ) → i < length steps → step ≡ get_or steps i step
    → count ≡ takes (reverse (take i steps)) c → more ≡ one_if (is_take c step.event) → count + more ≡ takes (reverse (take (i + 1) steps)) c
takes_more steps i step c count more h e is more_is =
    ap (λ n. n + more) is ∙ ap (λ n. takes (reverse (take i steps)) c + n) (more_is ∙ one_or_none (is_take c step.event)) ∙ sym (ap (λ past. takes past c) (past_more steps i step h e))

-- all steps are walked
pub walked : {A : Type 0} (steps : List (Step A)) (i : ℕ) → length steps ≤ i → reverse (take i steps) ≡ reverse steps
walked steps i h = ap reverse (take_all i steps h)

-- a test that goes from one step to the next, one step on
pub test_more : {A : Type 0} (test : List (Step A) → Bool) (steps : List (Step A)) (i : ℕ) (step : Step A) (now : Bool) → i < length steps → step ≡ get_or steps i step
    → now ≡ test (step ∷ reverse (take i steps)) → now ≡ test (reverse (take (i + 1) steps))
test_more test steps i step now h e now_is = now_is ∙ sym (ap test (past_more steps i step h e))
