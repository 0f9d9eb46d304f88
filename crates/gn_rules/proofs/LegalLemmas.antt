-- What holds of the first steps of a legal history, and of how many there are.
use Rattle.std.proofs.Common.{◌≡◌, ℕ, ◌+◌, ◌≤◌, ◌==◌, false, List, [], ◌∷◌, ◌++◌, length, take, drop, reverse, sym, ap, ◌∙◌, arith}
use Rattle.std.proofs.lemmas.Grind.{common_steps}
use Rattle.std.proofs.lemmas.List.{reverse-append, take-append-drop}
use Rattle.gn_rules.specs.declared.config.Config.{Config}
use Rattle.gn_rules.specs.declared.receipt.Step.{Step}
use Rattle.gn_rules.specs.Answer.{IsLegal}
use Rattle.gn_rules.proofs.AnswerLemmas.{has_room}

-- the steps before are legal too
pub legal_before : {A : Type 0} (s : Config) (later earlier : List (Step A)) → IsLegal s (later ++ earlier) → IsLegal s earlier
legal_before s [] earlier legal = legal
legal_before s (step ∷ later) earlier legal = legal_before s later earlier legal.1

-- the first steps of a legal history are a legal history
pub legal_take : {A : Type 0} (s : Config) (steps : List (Step A)) (k : ℕ) → IsLegal s (reverse steps) → IsLegal s (reverse (take k steps))
legal_take s steps k legal =
    let parts : reverse steps ≡ reverse (drop k steps) ++ reverse (take k steps) = ap reverse (sym (take-append-drop k steps)) ∙ reverse-append (take k steps) (drop k steps) in
    legal_before s (reverse (drop k steps)) (reverse (take k steps)) (rw parts at legal)

-- a number that is another is below one that it isn't above
pub others_differ : (n m : ℕ) → (n == m) ≡ false → n ≤ m → n + 1 ≤ m
others_differ n m other within = grind (arith, common_steps)

-- a legal history has no more steps than it may have
pub legal_within : {A : Type 0} (s : Config) (past : List (Step A)) → IsLegal s past → length past ≤ s.numbers.steps
legal_within s [] legal = omega arith
legal_within s (step ∷ past) legal =
    omega (arith, others_differ (length past) s.numbers.steps (has_room s past step.reply step.event legal.0) (legal_within s past legal.1))
