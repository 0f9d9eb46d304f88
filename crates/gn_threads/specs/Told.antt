-- What is told of a run whose router keeps its steps, by its answer where nobody keeps them.
use Rattle.std.specs.Prelude.{◌≡◌, IfSome, Result, Ok, Err}
use Rattle.std.specs.Option.{IsSomeAnd}
use Rattle.gn_report.specs.declared.account.Account.{Account}
use Rattle.gn_report.specs.declared.report.Report.{Report}
use Rattle.gn_report.specs.Told.{Tells}
use Rattle.gn_start.specs.declared.fault.RunFault.TheVariants.{NoMemory}
use Rattle.gn_threads.specs.declared.halted.Halted.{Halted}
use Rattle.gn_threads.specs.declared.stopped.Stopped.{Stopped}

-- this report is told: that of the run's account
abbrev pub IsToldOf : {Rd W A : Type 0} → Result (Account Rd W A) (Halted A) → Report Rd W A → Type 0
IsToldOf (Ok account) report = Tells account report
IsToldOf (Err halted) report = ⊥

-- the run stopped with this: as its answer says; or as there was no memory for the report, where it has an account
abbrev pub IsStoppedOf : {Rd W A : Type 0} → Result (Account Rd W A) (Halted A) → Stopped A → Type 0
IsStoppedOf (Ok account) stopped = (stopped.fault ≡ NoMemory) × IfSome stopped.history (λ steps. steps.items ≡ account.history.items)
IsStoppedOf (Err halted) stopped =
    (stopped.fault ≡ halted.fault) × IfSome stopped.history (λ steps. IsSomeAnd halted.history (λ history. history.items ≡ steps.items))
