-- What is known of a run once it is over, of which nobody keeps the steps, and of who ran beside it.
use Rattle.std.specs.Prelude.{◌≡◌, ◌<◌, ◌+◌, ℕ, List, [], length, slice_index_or, IfSome, Option, None, Some, Result, Ok, Err}
use Rattle.gn_rules.specs.declared.receipt.Step.{Step}
use Rattle.gn_rules.specs.History.{mine}
use Rattle.gn_actors.specs.Tallies.{tally_of}
use Rattle.gn_report.specs.declared.account.Account.{Account}
use Rattle.gn_report.specs.declared.account.LinkTally.{LinkTally}
use Rattle.gn_threads.specs.declared.halted.Halted.{Halted}

-- these are the steps of an answered run, or what stands of those of one that stopped
abbrev pub AreStepsOf : {Rd W A : Type 0} → Result (Account Rd W A) (Halted A) → List (Step A) → Type 0
AreStepsOf (Ok account) steps = account.history.items ≡ steps
AreStepsOf (Err halted) steps = IfSome halted.history (λ history. history.items ≡ steps)

-- the tallies of so many links: what the steps of each link's reader and of its writer count
pub record AreTallies {A : Type 0} (steps : List (Step A)) (links : ℕ) (tallies : List LinkTally) : Type 0 where
  pub many : length tallies ≡ links
  pub read : (k : ℕ) (d : LinkTally) → k < links → (slice_index_or tallies k d).read ≡ tally_of (mine steps k)
  pub written : (k : ℕ) (d : LinkTally) → k < links → (slice_index_or tallies k d).written ≡ tally_of (mine steps (links + k))

-- what is left of who ran beside a run and had these steps, of which something holds
pub record IsLeft {Ran Rest A : Type 0} (becomes : Ran → Type 0) (leaves : Ran → List (Step A) → Rest → Type 0)
    (rest : Rest) (holds : List (Step A) → Type 0) : Type 0 where
  pub ran : Ran
  pub steps : List (Step A)
  pub became : becomes ran
  pub left : leaves ran steps rest
  pub held : holds steps

-- the steps of what is left of a router: none, where there is no router
abbrev pub steps_left : {C A : Type 0} → (C → List (Step A)) → Option C → List (Step A)
steps_left steps None = []
steps_left steps (Some core) = steps core
