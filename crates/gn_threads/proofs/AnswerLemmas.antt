-- What a run answers that has no report, or whose router keeps its steps.
use Rattle.std.proofs.Common.{◌≡◌, ℕ, List, length, reverse, Option, None, Result, Ok, Err, sym, subst}
use Rattle.std.specs.Prelude.{IfErr, IfOk, IfSome}
use Rattle.gn_rules.specs.declared.config.Config.{Config}
use Rattle.gn_rules.specs.Answer.{IsLegal}
use Rattle.gn_rules.specs.Limits.{IsCrew}
use Rattle.gn_shake.specs.declared.role.Role.{Role}
use Rattle.gn_links.specs.Halves.{ReadHalf, Source, WrittenHalf}
use Rattle.gn_report.specs.declared.account.Account.{Account}
use Rattle.gn_report.specs.declared.report.Report.{Report}
use Rattle.gn_report.specs.Accounts.{report_of}
use Rattle.gn_report.specs.Told.{Tells}
use Rattle.gn_start.specs.declared.fault.RunFault.{RunFault}
use Rattle.gn_start.specs.declared.fault.RunFault.TheVariants.{BadWorkers, NoMemory}
use Rattle.gn_threads.specs.declared.halted.Halted.{Halted}
use Rattle.gn_threads.specs.declared.stopped.Stopped.{Stopped}
use Rattle.gn_threads.specs.Answers.{AreArrived, FaultViews, IsKeptAnswer, IsRunAnswer, halted_views, stopped_views}
use Rattle.gn_threads.specs.Headline.{AreMadeOf, Holds, LinksReadOwn}
use Rattle.gn_threads.specs.Told.{IsStoppedOf, IsToldOf}
use Rattle.gn_threads.proofs.AnsweredLemmas.{legal_held, ok_always, stopped_bad, stopped_fault, stopped_full, stopped_keeps}
use Rattle.gn_threads.proofs.ToldLemmas.{bytes_told, holds_told, made_told, one_told, same_halves}

module _ {Rd W A Q F : Type 0} (workers : ℕ) (faults : RunFault → Type 0) (headline origin : Report Rd W A → Type 0) (report : Q → Report Rd W A) where
  -- a run of so many workers as may be
  pub crewed : (why : F → RunFault) (answer : Result Q F) → IsCrew workers → ¬ (faults BadWorkers) → IfErr answer (λ f. faults (why f)) → IfOk answer (λ q. headline (report q))
      → IfOk answer (λ q. origin (report q)) → IsRunAnswer workers faults headline origin report why answer
  crewed why (Ok q) crew other may holds made = record { crew = crew; bad_workers = tt; fault = tt; holds = holds; made = made }
  crewed why (Err f) crew other may holds made =
      record { crew = tt; bad_workers = (λ is. absurd (other (subst faults is may)), λ none. absurd (none crew)); fault = λ _. may; holds = tt; made = tt }

  -- so at a fault
  pub at_fault : (why : F → RunFault) (f : F) → IsCrew workers → ¬ (faults BadWorkers) → faults (why f) → IsRunAnswer workers faults headline origin report why (Err f)
  at_fault why f crew other may = crewed why (Err f) crew other may tt tt

  -- where nothing stands of the history
  pub none_kept : {H : Type 0} (s : Config) (told : FaultViews F H A) (f : F) → told.history f ≡ None → IsRunAnswer workers faults headline origin report told.fault (Err f)
      → IsKeptAnswer s workers faults headline origin report told (Err f)
  none_kept {H} s told f none run = record {
    run = run;
    kept = subst (λ (h : Option H). IfSome h (λ history. IsLegal s (reverse (told.steps history)))) (sym none) tt;
    full = λ _. subst (λ (h : Option H). IfSome h (λ history. length (told.steps history) ≡ s.numbers.steps)) (sym none) tt;
  }

module _ {Rd W A O : Type 0} (workers : ℕ) (faults : RunFault → Type 0) (reads : Rd → ReadHalf) (writes : W → WrittenHalf) (batch : ℕ) (s : Config) (roles : List Role) (reader_of : Rd → O) (writer_of : W → O)
    (origins : List O) where
  -- what such a run answers of which the headline is asked, with what stands of its history and without
  abbrev pub KeepsHeadline : {Q F H : Type 0} → (Q → Report Rd W A) → FaultViews F H A → Result Q F → Type 0
  KeepsHeadline report told answer = IsKeptAnswer s workers faults (Holds batch reads writes s roles workers) (AreMadeOf reader_of writer_of origins) report told answer

  abbrev pub HasHeadline : Result (Report Rd W A) RunFault → Type 0
  HasHeadline answer = IsRunAnswer workers faults (Holds batch reads writes s roles workers) (AreMadeOf reader_of writer_of origins) (λ r. r) (λ fault. fault) answer

  -- what a run answers with its report, where it is so with its account
  pub told_report : (answer : Result (Account Rd W A) (Halted A)) (report : Report Rd W A) → KeepsHeadline report_of halted_views answer → IsToldOf answer report → KeepsHeadline {F = Stopped A} (λ r. r) stopped_views (Ok report)
  told_report (Ok account) report h tells = record {
    run = record {
      crew = h.run.crew;
      bad_workers = tt;
      fault = tt;
      holds = holds_told account report tells batch reads writes s roles workers h.run.holds;
      made = made_told account report tells reader_of writer_of origins h.run.made;
    };
    kept = tt;
    full = tt;
  }
  told_report (Err halted) report h tells = absurd tells

  -- and with what stands of it
  pub told_stopped : (answer : Result (Account Rd W A) (Halted A)) (stopped : Stopped A) → KeepsHeadline report_of halted_views answer → faults NoMemory → IsStoppedOf answer stopped
      → KeepsHeadline {Q = Report Rd W A} (λ r. r) stopped_views (Err stopped)
  told_stopped answer stopped h low same = record {
    run = record {
      crew = tt;
      bad_workers = stopped_bad answer stopped workers same h.run.crew h.run.bad_workers;
      fault = stopped_fault answer stopped (λ fault. IsCrew workers → faults fault) same (ok_always answer (IsCrew workers → faults NoMemory) (λ _. low)) h.run.fault;
      holds = tt;
      made = tt;
    };
    kept = stopped_keeps (λ steps. IsLegal s (reverse steps)) answer stopped same (legal_held answer batch reads writes s roles workers h.run.holds) h.kept;
    full = stopped_full (λ steps. length steps ≡ s.numbers.steps) answer stopped same h.full;
  }

  pub told_answer : (answer : Result (Account Rd W A) (Halted A)) (given : Result (Report Rd W A) (Stopped A)) → KeepsHeadline report_of halted_views answer → faults NoMemory
      → IfOk given (λ report. IsToldOf answer report) → IfErr given (λ stopped. IsStoppedOf answer stopped) → KeepsHeadline (λ r. r) stopped_views given
  told_answer answer (Ok report) h low told stopped = told_report answer report h told
  told_answer answer (Err at) h low told stopped = told_stopped answer at h low stopped

  -- what it answers that tells nothing of a fault but which it is
  pub report_alone : (report : Report Rd W A) → KeepsHeadline {F = Stopped A} (λ r. r) stopped_views (Ok report) → HasHeadline (Ok report)
  report_alone report h = record { crew = h.run.crew; bad_workers = tt; fault = tt; holds = h.run.holds; made = h.run.made }

  pub fault_alone : (stopped : Stopped A) → KeepsHeadline {Q = Report Rd W A} (λ r. r) stopped_views (Err stopped) → HasHeadline (Err stopped.fault)
  fault_alone stopped h = record { crew = tt; bad_workers = h.run.bad_workers; fault = h.run.fault; holds = tt; made = tt }

-- links of an account that came one after another are so in the report that it tells
pub arrived_told : {Rd W A O : Type 0} (account : Account Rd W A) (report : Report Rd W A) → Tells account report → (reads : Rd → ReadHalf) (gives : O → Source) (reader_of : Rd → O) (writer_of : W → O)
    → AreArrived reads gives reader_of writer_of (report_of account) → AreArrived reads gives reader_of writer_of report
arrived_told account report tells reads gives reader_of writer_of h = record {
  bytes = subst (λ sources. LinksReadOwn reads sources report) (sym (same_halves account report tells (λ e. gives (reader_of e.reader)))) (bytes_told account report tells reads _ h.bytes);
  one = one_told account report tells reader_of writer_of h.one;
}
