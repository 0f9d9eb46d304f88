-- One more step of a legal history, by the test of its reply.
use Rattle.std.proofs.Common.{◌≡◌, ℕ, ◌+◌, ◌<◌, ◌≤◌, get_or, length, reverse, take, List, Ok, sym, subst, arith}
use Rattle.std.proofs.lemmas.List.{length-reverse, length-take-le}
use Rattle.gn_rules.specs.declared.config.Config.{Config}
use Rattle.gn_rules.specs.declared.receipt.Step.{Step}
use Rattle.gn_rules.specs.Answer.{answer, IsLegal}
use Rattle.gn_rules.proofs.LegalLemmas.{legal_within}
use Rattle.gn_rules.proofs.PastLemmas.{past_more}

module _ {A : Type 0} (s : Config) (steps : List (Step A)) (i : ℕ) (step : Step A) (within : i < length steps) (is : step ≡ get_or steps i step) where
  -- a step whose reply is the rules' answer
  pub still_legal : IsLegal s (reverse (take i steps)) → answer s (reverse (take i steps)) step.event ≡ Ok step.reply → IsLegal s (reverse (take (i + 1) steps))
  still_legal legal answered = subst (λ (past : List (Step A)). IsLegal s past) (sym (past_more steps i step within is)) (answered, legal)

  -- a legal history's step has the rules' answer
  pub last_answered : IsLegal s (reverse (take (i + 1) steps)) → answer s (reverse (take i steps)) step.event ≡ Ok step.reply
  last_answered legal =
      let now = subst (λ (past : List (Step A)). IsLegal s past) (past_more steps i step within is) legal in
      now.0

pub steps_before : {A : Type 0} (s : Config) (steps : List (Step A)) (i : ℕ) → i ≤ length steps → IsLegal s (reverse (take i steps)) → i ≤ s.numbers.steps
steps_before s steps i within legal =
    omega (arith, legal_within s (reverse (take i steps)) legal, length-reverse (take i steps), length-take-le i steps within)
