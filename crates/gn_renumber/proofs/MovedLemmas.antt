-- What is said of steps whose actors have other numbers.
use Rattle.std.proofs.Common.{◌≡◌, ◌<◌, ◌+◌, ◌==◌, ◌||◌, cond, nat_lt, ℕ, true, List, [], ◌∷◌, ◌++◌, map, reverse, take, refl, sym, ap, ◌∙◌, subst, inl, inr}
use mathlib.Core.List.{reverse-cons}
use Rattle.std.specs.List.{list_all, list_any}
use Rattle.std.proofs.lemmas.Bool.{and_parts, cases_eq, eq-eqb, lt-ltb, ltb-true, ne_eqb}
use Rattle.std.proofs.lemmas.List.{length-map, map_push, take-map}
use Rattle.gn_rules.specs.declared.config.Config.{Config}
use Rattle.gn_rules.specs.declared.receipt.Receipt.{Receipt}
use Rattle.gn_rules.specs.declared.receipt.Step.{Step}
use Rattle.gn_rules.specs.Answer.{IsLegal}
use Rattle.gn_rules.specs.Flight.{flying}
use Rattle.gn_rules.specs.History.{is_close, mine, mine_from}
use Rattle.gn_rules.specs.Statistics.{counter_of, raised, stats_of}
use Rattle.gn_rules.proofs.CounterLemmas.{stats_more}
use Rattle.gn_renumber.specs.Moved.{AreAlike, MovedIsAlike, MovedIsLegal, moved}
use Rattle.gn_renumber.proofs.AlikeLemmas.{flying_all, moved_reads}
use Rattle.gn_renumber.proofs.AnswerLemmas.{answer_alike}

reverse_mapped : {X Y : Type 0} (f : X → Y) (xs : List X) → reverse (map f xs) ≡ map f (reverse xs)
reverse_mapped f [] = refl
reverse_mapped f (x ∷ xs) = reverse-cons (f x) (map f xs) ∙ ap (λ ys. ys ++ f x ∷ []) (reverse_mapped f xs) ∙ sym (map_push f (reverse xs) x) ∙ ap (map f) (sym (reverse-cons x xs))

module _ {A : Type 0} (number : ℕ → ℕ) where
  move : Step A → Step A
  move step = record step { actor = number step.actor }

  legal_past : (s : Config) (past : List (Step A)) → IsLegal s past → IsLegal s (moved number past)
  legal_past s [] legal = tt
  legal_past s (step ∷ earlier) legal = (answer_alike s (moved number earlier) earlier (moved_reads number earlier) step.event ∙ legal.0, legal_past s earlier legal.1)

  moved_back : (steps : List (Step A)) → reverse (moved number steps) ≡ moved number (reverse steps)
  moved_back steps = reverse_mapped (λ (step : Step A). record step { actor = number step.actor }) steps

  legal_moved : (s : Config) (steps : List (Step A)) → IsLegal s (reverse steps) → IsLegal s (reverse (moved number steps))
  legal_moved s steps legal = subst (λ past. IsLegal s past) (sym (moved_back steps)) (legal_past s (reverse steps) legal)

  flying_moved : (steps : List (Step A)) → flying (reverse (moved number steps)) ≡ flying (reverse steps)
  flying_moved steps = ap flying (moved_back steps) ∙ flying_all (moved number (reverse steps)) (reverse steps) (moved_reads number (reverse steps))

  closed_moved : (c : ℕ) (steps : List (Step A)) → list_any (λ step. is_close c step.event) (moved number steps) ≡ list_any (λ step. is_close c step.event) steps
  closed_moved c [] = refl
  closed_moved c (step ∷ steps) = ap (λ b. is_close c step.event || b) (closed_moved c steps)

  stats_moved : (past : List (Step A)) → stats_of (moved number past) ≡ stats_of past
  stats_moved [] = refl
  stats_moved (step ∷ earlier) =
      stats_more {A = A} (record step { actor = number step.actor }) (moved number earlier)
      ∙ ap (raised (counter_of step.reply)) (stats_moved earlier)
      ∙ sym (stats_more step earlier)

  alike_moved : (steps : List (Step A)) → AreAlike steps (moved number steps)
  alike_moved steps =
      let f : Step A → Step A = λ step. record step { actor = number step.actor } in
      record {
        many = length-map steps f;
        flying_in = λ k. ap (λ (ss : List (Step A)). flying (reverse ss)) (take-map f k steps) ∙ flying_moved (take k steps);
        closed = λ c. closed_moved c steps;
        stats = ap stats_of (moved_back steps) ∙ stats_moved (reverse steps);
      }

  -- an actor whose number no other actor of these steps gets has the same receipts under it
  mine_moved : (m a i : ℕ) (steps : List (Step A)) → list_all (λ step. nat_lt step.actor m) steps ≡ true → ((b : ℕ) → b < m → number b ≡ number a → b ≡ a) → mine_from (number a) i (moved number steps) ≡ mine_from a i steps
  mine_moved m a i [] low apart = refl
  mine_moved m a i (step ∷ steps) low apart =
      let parts = and_parts (nat_lt step.actor m) (list_all (λ (x : Step A). nat_lt x.actor m) steps) low in
      let rest : mine_from (number a) (i + 1) (moved number steps) ≡ mine_from a (i + 1) steps = mine_moved m a (i + 1) steps parts.1 apart in
      let test : (number step.actor == number a) ≡ (step.actor == a) =
      elim (cases_eq step.actor a) as (λ x. (number step.actor == number a) ≡ (step.actor == a)) [
        | inl same ↦ eq-eqb (number step.actor) (number a) (ap number same) ∙ sym (eq-eqb step.actor a same)
        | inr other ↦ ne_eqb (number step.actor) (number a) (λ e. other (apart step.actor (ltb-true step.actor m parts.0) e)) ∙ sym (ne_eqb step.actor a other)
      ] in
      let here : Receipt A = record { index = i; event = step.event; reply = step.reply } in
      ap (λ b. cond b (here ∷ mine_from (number a) (i + 1) (moved number steps)) (mine_from (number a) (i + 1) (moved number steps))) test
      ∙ ap (λ (rs : List (Receipt A)). cond (step.actor == a) (here ∷ rs) rs) rest

  only_moved : (m n : ℕ) (steps : List (Step A)) → list_all (λ step. nat_lt step.actor m) steps ≡ true → ((b : ℕ) → b < m → number b < n) → list_all (λ step. nat_lt step.actor n) (moved number steps) ≡ true
  only_moved m n [] low below = refl
  only_moved m n (step ∷ steps) low below =
      let parts = and_parts (nat_lt step.actor m) (list_all (λ (x : Step A). nat_lt x.actor m) steps) low in
      rw (lt-ltb (number step.actor) n (below step.actor (ltb-true step.actor m parts.0))) (only_moved m n steps parts.1 below)

pub moved_is_legal : (A : Type 0) → MovedIsLegal A
moved_is_legal A s number steps legal = legal_moved number s steps legal

pub moved_is_alike : (A : Type 0) → MovedIsAlike A
moved_is_alike A number steps = alike_moved number steps

pub mine_of_moved : {A : Type 0} (number : ℕ → ℕ) (m a : ℕ) (steps : List (Step A)) → list_all (λ step. nat_lt step.actor m) steps ≡ true → ((b : ℕ) → b < m → number b ≡ number a → b ≡ a) → mine (moved number steps) (number a) ≡ mine steps a
mine_of_moved number m a steps low apart = mine_moved number m a 0 steps low apart

pub only_of_moved : {A : Type 0} (number : ℕ → ℕ) (m n : ℕ) (steps : List (Step A)) → list_all (λ step. nat_lt step.actor m) steps ≡ true → ((b : ℕ) → b < m → number b < n) → list_all (λ step. nat_lt step.actor n) (moved number steps) ≡ true
only_of_moved number m n steps low below = only_moved number m n steps low below
