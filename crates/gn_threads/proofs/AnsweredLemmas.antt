-- What is told of a run whose router keeps its steps is what its answer says where nobody keeps them.
use Rattle.std.proofs.Common.{◌≡◌, ◌∙◌, ◌↔◌, ℕ, List, reverse, Option, Some, None, Result, Ok, Err, Vec, sym, subst}
use Rattle.std.specs.Prelude.{IfErr, IfOk, IfSome}
use Rattle.std.specs.Option.{IsSomeAnd}
use Rattle.gn_rules.specs.declared.config.Config.{Config}
use Rattle.gn_rules.specs.declared.receipt.Step.{Step}
use Rattle.gn_rules.specs.Answer.{IsLegal}
use Rattle.gn_rules.specs.Limits.{IsCrew}
use Rattle.gn_shake.specs.declared.role.Role.{Role}
use Rattle.gn_links.specs.Halves.{ReadHalf, WrittenHalf}
use Rattle.gn_report.specs.declared.account.Account.{Account}
use Rattle.gn_report.specs.declared.report.Report.{Report}
use Rattle.gn_report.specs.declared.unkept.Unkept.{Unkept}
use Rattle.gn_report.specs.Accounts.{report_of}
use Rattle.gn_report.specs.Actors.{AreOwn}
use Rattle.gn_report.specs.Told.{Tells}
use Rattle.gn_start.specs.declared.fault.RunFault.{RunFault}
use Rattle.gn_start.specs.declared.fault.RunFault.TheVariants.{BadWorkers, HistoryFull, NoMemory}
use Rattle.gn_threads.specs.declared.halted.Halted.{Halted}
use Rattle.gn_threads.specs.declared.stopped.Stopped.{Stopped}
use Rattle.gn_threads.specs.Courses.{AreStepsOf, IsLeft}
use Rattle.gn_threads.specs.Headline.{Holds}
use Rattle.gn_threads.specs.Told.{IsStoppedOf, IsToldOf}

-- what holds anyway holds of a result, where there is one
pub ok_always : {T E : Type 0} (r : Result T E) (P : Type 0) → P → IfOk r (λ _. P)
ok_always (Ok x) P p = p
ok_always (Err e) P p = tt

module _ {Rd W A : Type 0} where
  -- a router that keeps the steps of a run has those of its answer
  pub steps_had : {Ran Rest : Type 0} (answer : Result (Account Rd W A) (Halted A)) (becomes : Ran → Type 0) (left_by : Rest → List (Step A)) (rest : Rest)
      → IsLeft becomes (λ _ steps it. steps ≡ left_by it) rest (AreStepsOf answer) → AreStepsOf answer (left_by rest)
  steps_had answer becomes left_by rest h = subst (λ steps. AreStepsOf answer steps) h.left h.held

  -- what holds of a report that is told
  pub told_has : {Z : Type 0} (answer : Result (Account Rd W A) (Halted A)) (report : Report Rd W A) (P : Account Rd W A → Type 0) → IsToldOf answer report → IfOk answer P
      → ((account : Account Rd W A) → Tells account report → P account → Z) → Z
  told_has (Ok account) report P tells p more = more account tells p
  told_has (Err halted) report P tells p more = absurd tells

  -- where the headline holds each actor's receipts are its own, and the history is legal
  pub own_held : {E : Type 0} (answer : Result (Account Rd W A) E) (batch : ℕ) (reads : Rd → ReadHalf) (writes : W → WrittenHalf) (s : Config) (roles : List Role) (workers : ℕ)
      → IfOk answer (λ account. Holds batch reads writes s roles workers (report_of account)) → IfOk answer (λ account. AreOwn (report_of account))
  own_held (Ok account) batch reads writes s roles workers holds = holds.own.0
  own_held (Err e) batch reads writes s roles workers holds = tt

  pub legal_held : {E : Type 0} (answer : Result (Account Rd W A) E) (batch : ℕ) (reads : Rd → ReadHalf) (writes : W → WrittenHalf) (s : Config) (roles : List Role) (workers : ℕ)
      → IfOk answer (λ account. Holds batch reads writes s roles workers (report_of account)) → IfOk answer (λ account. IsLegal s (reverse account.history.items))
  legal_held (Ok account) batch reads writes s roles workers holds = holds.legal
  legal_held (Err e) batch reads writes s roles workers holds = tt

  -- what holds of the fault of a run that stopped
  pub stopped_fault : (answer : Result (Account Rd W A) (Halted A)) (stopped : Stopped A) (P : RunFault → Type 0) → IsStoppedOf answer stopped → IfOk answer (λ _. P NoMemory) → IfErr answer (λ halted. P halted.fault) → P stopped.fault
  stopped_fault (Ok account) stopped P same low high = subst P (sym same.0) low
  stopped_fault (Err halted) stopped P same low high = subst P (sym same.0) high

module _ {A : Type 0} (P : List (Step A) → Type 0) where
  same_items : (kept : Option (Vec (Step A) A)) (steps : List (Step A)) → IfSome kept (λ ss. ss.items ≡ steps) → P steps → IfSome kept (λ ss. P ss.items)
  same_items None steps same p = tt
  same_items (Some ss) steps same p = subst P (sym same) p

  of_some : (was : Option (Unkept (Step A))) (steps : List (Step A)) → IsSomeAnd was (λ history. history.items ≡ steps) → IfSome was (λ history. P history.items) → P steps
  of_some None steps same p = absurd same
  of_some (Some history) steps same p = subst P same p

  of_part : (kept : Option (Vec (Step A) A)) (was : Option (Unkept (Step A))) → IfSome kept (λ ss. IsSomeAnd was (λ history. history.items ≡ ss.items)) → IfSome was (λ history. P history.items) → IfSome kept (λ ss. P ss.items)
  of_part None was same p = tt
  of_part (Some ss) was same p = of_some was ss.items same p

  -- what holds of what stands of its history
  pub stopped_keeps : {Rd W : Type 0} (answer : Result (Account Rd W A) (Halted A)) (stopped : Stopped A) → IsStoppedOf answer stopped → IfOk answer (λ account. P account.history.items)
      → IfErr answer (λ halted. IfSome halted.history (λ history. P history.items)) → IfSome stopped.history (λ history. P history.items)
  stopped_keeps (Ok account) stopped same low high = same_items stopped.history account.history.items same.1 low
  stopped_keeps (Err halted) stopped same low high = of_part stopped.history halted.history same.1 high

  -- so where it is full
  pub stopped_full : {Rd W : Type 0} (answer : Result (Account Rd W A) (Halted A)) (stopped : Stopped A) → IsStoppedOf answer stopped
      → IfErr answer (λ halted. halted.fault ≡ HistoryFull → IfSome halted.history (λ history. P history.items)) → stopped.fault ≡ HistoryFull → IfSome stopped.history (λ history. P history.items)
  stopped_full (Ok account) stopped same high full = let other : NoMemory ≡ HistoryFull = sym same.0 ∙ full in cc
  stopped_full (Err halted) stopped same high full = of_part stopped.history halted.history same.1 (high (sym same.0 ∙ full))

-- a run of too many workers, or of none, stopped for that
pub stopped_bad : {Rd W A : Type 0} (answer : Result (Account Rd W A) (Halted A)) (stopped : Stopped A) (workers : ℕ) → IsStoppedOf answer stopped → IfOk answer (λ _. IsCrew workers)
    → IfErr answer (λ halted. (halted.fault ≡ BadWorkers) ↔ (¬ IsCrew workers)) → (stopped.fault ≡ BadWorkers) ↔ (¬ IsCrew workers)
stopped_bad (Ok account) stopped workers same crew bad = (λ is some. let other : NoMemory ≡ BadWorkers = sym same.0 ∙ is in cc, λ not. absurd (not crew))
stopped_bad (Err halted) stopped workers same crew bad = subst (λ fault. (fault ≡ BadWorkers) ↔ (¬ IsCrew workers)) (sym same.0) bad
