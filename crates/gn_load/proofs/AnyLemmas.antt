-- A history that was written while a run went on that takes any number of callers.
use Rattle.std.proofs.Common.{◌≡◌, ◌∙◌, ◌↔◌, ℕ, Bool, false, true, List, length, reverse, Option, None, Some, Result, Ok, Err, refl, subst, sym}
use Rattle.std.specs.Prelude.{⊤, IfErr, IfOk, IfSome, MatchResult}
use Rattle.std.specs.declared.net.socket_addr.SocketAddr.{SocketAddr}
use Rattle.std.specs.Io.KnownBytes.{Appends}
use Rattle.gn_report.specs.declared.unkept.Unkept.{Unkept}
use Rattle.gn_rules.specs.Answer.{IsLegal}
use Rattle.gn_rules.specs.Limits.{IsCrew}
use Rattle.gn_rules.specs.declared.config.Config.{Config}
use Rattle.gn_rules.specs.declared.receipt.Step.{Step}
use Rattle.gn_text.specs.Header.{header_text}
use Rattle.gn_numbers.specs.declared.titles.Text.TheVariants.{History}
use Rattle.gn_capture.specs.Histories.{history_text}
use Rattle.gn_io.specs.Parts.{AppendsPart}
use Rattle.gn_io.specs.Streams.{SinkState}
use Rattle.gn_printed.specs.declared.ending.Waiting.{Waiting}
use Rattle.gn_printed.specs.declared.printed.PrintFault.{PrintFault}
use Rattle.gn_printed.specs.Finished.{HasFinished}
use Rattle.gn_scribe.specs.Written.{HasJournalled}
use Rattle.gn_service.specs.Any.{IsAnyAccount, IsResumedAccount, ran_of_any}
use Rattle.gn_service.specs.Ran.{Remembered}
use Rattle.gn_sockets.specs.TcpHalves.{TcpReading, TcpWriting}
use Rattle.gn_start.specs.Faults.{IsArrivingFault}
use Rattle.gn_start.specs.declared.fault.RunFault.{RunFault}
use Rattle.gn_start.specs.declared.fault.RunFault.TheVariants.{BadWorkers, HistoryFull}
use Rattle.gn_threads.specs.declared.halted.Halted.{Halted}
use Rattle.gn_threads.specs.declared.open_account.OpenAccount.{OpenAccount}
use Rattle.gn_threads.specs.OpenRuns.{IsOpenFault}
use Rattle.gn_load.specs.Any.{AppendsPartBy, IsJournalledBy, IsPastAccount, IsTextBy}
use Rattle.gn_load.specs.Journalled.{AppendsLegalPart, HasFinishedRun, HasStoppedWriting, IsAnsweredBy, of_print}
use Rattle.gn_load.specs.Served.{IsServeFault}
use Rattle.gn_load.specs.declared.serve_fault.ServeFault.{ServeFault}
use Rattle.gn_load.specs.declared.serve_fault.ServeFault.TheVariants.{Run}
use Rattle.gn_load.specs.declared.serve_halted.ServeHalted.{ServeHalted}
use Rattle.gn_load.proofs.JournalLemmas.{all_finished, fault_by, fault_of_print, never_full, nothing_yet, other_than_workers, part_finished, stopped_part, stopped_short}
use Rattle.gn_load.proofs.ServedLemmas.{is_full, run_is}

-- what is answered where no run began
pub unbegun : {A : Type 0} (holds : OpenAccount TcpReading TcpWriting A → Type 0) (s : Config) (workers : ℕ) (sink : SinkState) (halted : ServeHalted A) (fault : RunFault)
    → (halted.fault ≡ Run fault) × (halted.history ≡ None) × (halted.ran ≡ None) → (fault ≡ BadWorkers) ↔ (¬ IsCrew workers)
    → (IsCrew workers → IsArrivingFault true 0 workers fault) → IsJournalledBy holds s workers sink sink (Err halted)
unbegun {A} holds s workers sink halted fault is crew may =
    record {
      crew = tt;
      bad_workers = subst (λ f. (f ≡ Run BadWorkers) ↔ (¬ IsCrew workers)) (sym is.0) (run_is fault _ crew);
      fault = λ within. (0, subst (λ f. IsServeFault 0 workers f sink sink) (sym is.0) (may within));
      ran = tt;
      written = tt;
      report = tt;
      unfailed = tt;
      account = tt;
      part = subst (λ h. AppendsLegalPart A s h sink.written sink.written) (sym is.1) (nothing_yet A s sink.written);
      full = λ all. subst (λ (h : Option (Unkept (Step A))). IfSome h (λ history. length history.items ≡ s.numbers.steps)) (sym is.1) tt;
      remembered = subst (λ r. IfSome r (λ _. AppendsPartBy A holds s r sink.written sink.written)) (sym is.2) tt;
    }

-- what a run answered that stopped, as far as that is known
pub record HasStopped {A : Type 0} (s : Config) (workers : ℕ) (steps : List (Step A)) (halted : Halted A) : Type 0 where
  pub crew : IsCrew workers
  pub bad_workers : (halted.fault ≡ BadWorkers) ↔ (¬ IsCrew workers)
  pub fault : IsCrew workers → IsOpenFault true workers halted.fault
  pub full : halted.fault ≡ HistoryFull → IfSome halted.history (λ history. length history.items ≡ s.numbers.steps)
  pub has : IfSome halted.history (λ history. history.items ≡ steps)
  pub legal : IsLegal s (reverse steps)

module _ {A : Type 0} (holds : OpenAccount TcpReading TcpWriting A → Type 0) (s : Config) (workers : ℕ) (steps : List (Step A)) (old mid new : SinkState) (halted : Halted A) (after : ServeHalted A)
    (run : HasStopped s workers steps halted) (history : after.history ≡ halted.history) (none : after.ran ≡ None) where
  -- what is answered, by its fault and by what was written
  stopped_so : (fault : ServeFault) → after.fault ≡ fault → (fault ≡ Run BadWorkers) ↔ (¬ IsCrew workers) → (came : ℕ) × IsServeFault came workers fault old new
      → (fault ≡ Run HistoryFull → halted.fault ≡ HistoryFull) → AppendsLegalPart A s halted.history old.written new.written
      → IsJournalledBy holds s workers old new (Err after)
  stopped_so fault is bad may all part =
      record {
        crew = tt;
        bad_workers = subst (λ f. (f ≡ Run BadWorkers) ↔ (¬ IsCrew workers)) (sym is) bad;
        fault = λ _. subst (λ f. (came : ℕ) × IsServeFault came workers f old new) (sym is) may;
        ran = tt;
        written = tt;
        report = tt;
        unfailed = tt;
        account = tt;
        part = subst (λ h. AppendsLegalPart A s h old.written new.written) (sym history) part;
        full = λ full. subst (λ (h : Option (Unkept (Step A))). IfSome h (λ history. length history.items ≡ s.numbers.steps)) (sym history) (run.full (all (sym is ∙ full)));
        remembered = subst (λ r. IfSome r (λ _. AppendsPartBy A holds s r old.written new.written)) (sym none) tt;
      }

  -- by what waited
  stopped_as : (waiting : Result (Waiting A) PrintFault) → HasJournalled (header_text History s) steps old mid waiting
      → MatchResult waiting (λ _. after.fault ≡ Run halted.fault) (λ why. after.fault ≡ of_print why) → HasStoppedWriting halted.history mid new waiting
      → IsJournalledBy holds s workers old new (Err after)
  stopped_as (Ok waiting) has is wrote =
      stopped_so (Run halted.fault) is (run_is halted.fault _ run.bad_workers) (run.fault run.crew) (λ full. is_full full)
      (stopped_part s steps old mid new waiting run.legal has halted.history run.has wrote)
  stopped_as (Err why) has is still =
      let short = stopped_short s steps old mid new why run.legal has halted.history run.has still in
      stopped_so (of_print why) is (other_than_workers workers why run.crew) (0, fault_of_print 0 workers why old new short.1) (λ full. absurd (never_full why full)) short.0

module _ {A : Type 0} (holds : OpenAccount TcpReading TcpWriting A → Type 0) (s : Config) (workers : ℕ) (steps : List (Step A)) (old mid new : SinkState) (account : OpenAccount TcpReading TcpWriting A) (ran : Remembered A)
    (crew : IsCrew workers) (remembered : ran ≡ ran_of_any account) (legal : IsLegal s (reverse account.history.items)) (answered : holds account) (is : account.history.items ≡ steps) where
  -- the text is that of the account's history
  text_of : (text : List ℕ) → text ≡ history_text s steps → IsTextBy A holds s ran text
  text_of text printed = record {
    account = account;
    remembered = remembered;
    answered = answered;
    printed = subst (λ (r : Remembered A). text ≡ history_text s r.steps) (sym remembered) (subst (λ (xs : List (Step A)). text ≡ history_text s xs) (sym is) printed);
  }

  -- what is answered where it was written
  all_written : (waiting : Result (Waiting A) PrintFault) (done : ⊤) → HasJournalled (header_text History s) steps old mid waiting → HasFinished mid new waiting (Ok done)
      → IsJournalledBy holds s workers old new (Ok (account, ran))
  all_written waiting done has finished =
      let whole = all_finished s steps old mid new waiting done has finished in
      record {
        crew = crew;
        bad_workers = tt;
        fault = tt;
        ran = remembered;
        written = (history_text s steps, text_of (history_text s steps) refl, whole.0);
        report = subst (λ (xs : List (Step A)). Appends old.written new.written (history_text s xs)) (sym is) whole.0;
        unfailed = whole.1;
        account = answered;
        part = tt;
        full = tt;
        remembered = tt;
      }

  -- what is answered where it wasn't written whole
  unwritten : (after : ServeHalted A) (waiting : Result (Waiting A) PrintFault) (why : PrintFault) → HasJournalled (header_text History s) steps old mid waiting
      → HasFinished mid new waiting (Err why) → after.fault ≡ of_print why → (after.history ≡ Some account.history) × (after.ran ≡ Some ran)
      → IsJournalledBy holds s workers old new (Err after)
  unwritten after waiting why has finished fault same =
      let cut = part_finished s steps old mid new waiting why has finished in
      let part : AppendsPart old.written new.written (history_text s account.history.items) =
      subst (λ (xs : List (Step A)). AppendsPart old.written new.written (history_text s xs)) (sym is) cut.0 in
      record {
        crew = tt;
        bad_workers = subst (λ f. (f ≡ Run BadWorkers) ↔ (¬ IsCrew workers)) (sym fault) (other_than_workers workers why crew);
        fault = λ _. (0, subst (λ f. IsServeFault 0 workers f old new) (sym fault) (fault_of_print 0 workers why old new cut.1));
        ran = tt;
        written = tt;
        report = tt;
        unfailed = tt;
        account = tt;
        part = subst (λ h. AppendsLegalPart A s h old.written new.written) (sym same.0) (legal, part);
        full = λ all. absurd (never_full why (sym fault ∙ all));
        remembered = subst (λ r. IfSome r (λ _. AppendsPartBy A holds s r old.written new.written)) (sym same.1)
            (ran, refl, history_text s steps, text_of (history_text s steps) refl, cut.0);
      }

-- what a run answered, as far as that is known
pub record HasServed {A : Type 0} (holds : OpenAccount TcpReading TcpWriting A → Type 0) (s : Config) (workers : ℕ) (steps : List (Step A))
    (answer : Result (OpenAccount TcpReading TcpWriting A × Remembered A) (Halted A)) : Type 0 where
  pub crew : IsCrew workers
  pub bad_workers : IfErr answer (λ halted. (halted.fault ≡ BadWorkers) ↔ (¬ IsCrew workers))
  pub fault : IfErr answer (λ halted. IsCrew workers → IsOpenFault true workers halted.fault)
  pub full : IfErr answer (λ halted. halted.fault ≡ HistoryFull → IfSome halted.history (λ history. length history.items ≡ s.numbers.steps))
  pub ran : IfOk answer (λ done. done.1 ≡ ran_of_any done.0)
  pub account : IfOk answer (λ done. holds done.0)
  pub held : MatchResult answer (λ done. done.0.history.items ≡ steps) (λ halted. IfSome halted.history (λ history. history.items ≡ steps))
  pub legal : IsLegal s (reverse steps)

-- what is answered by a run that answered so, once its text was finished or couldn't be
pub answered : {A : Type 0} (holds : OpenAccount TcpReading TcpWriting A → Type 0) (s : Config) (workers : ℕ) (steps : List (Step A)) (old mid new : SinkState)
    (answer : Result (OpenAccount TcpReading TcpWriting A × Remembered A) (Halted A)) → HasServed holds s workers steps answer
    → (waiting : Result (Waiting A) PrintFault) → HasJournalled (header_text History s) steps old mid waiting
    → (printed : Result ⊤ PrintFault) → HasFinishedRun answer mid new waiting printed
    → (after : Result (OpenAccount TcpReading TcpWriting A × Remembered A) (ServeHalted A)) → IsAnsweredBy (λ done. done.0.history) (λ done. done.1) answer printed after
    → IsJournalledBy holds s workers old new after
answered holds s workers steps old mid new (Ok done) run waiting has (Ok x) finished after is =
    subst (λ r. IsJournalledBy holds s workers old new r) (sym is)
    (all_written holds s workers steps old mid new done.0 done.1 run.crew run.ran (subst (λ xs. IsLegal s (reverse xs)) (sym run.held) run.legal) run.account run.held waiting x has finished)
answered holds s workers steps old mid new (Ok done) run waiting has (Err why) finished (Ok x) is = absurd is
answered holds s workers steps old mid new (Ok done) run waiting has (Err why) finished (Err after) is =
    unwritten holds s workers steps old mid new done.0 done.1 run.crew run.ran (subst (λ xs. IsLegal s (reverse xs)) (sym run.held) run.legal) run.account run.held
    after waiting why has finished is.0 (is.1, is.2)
answered holds s workers steps old mid new (Err halted) run waiting has printed finished (Ok x) is = absurd is
answered holds s workers steps old mid new (Err halted) run waiting has printed finished (Err after) is =
    stopped_as holds s workers steps old mid new halted after
    (record { crew = run.crew; bad_workers = run.bad_workers; fault = run.fault; full = run.full; has = run.held; legal = run.legal })
    is.1 is.3 waiting has (fault_by halted.fault waiting printed after.fault is.0 finished.1) finished.0

-- what holds of an account where more does, so do its text, and what is answered
module _ {A : Type 0} (more holds : OpenAccount TcpReading TcpWriting A → Type 0) (less : (account : OpenAccount TcpReading TcpWriting A) → more account → holds account) (s : Config) where
  text_less : (ran : Remembered A) (text : List ℕ) → IsTextBy A more s ran text → IsTextBy A holds s ran text
  text_less ran text is = record { account = is.account; remembered = is.remembered; answered = less is.account is.answered; printed = is.printed }

  part_less : (ran : Option (Remembered A)) (old new : SinkState) → IfSome ran (λ _. AppendsPartBy A more s ran old.written new.written)
      → IfSome ran (λ _. AppendsPartBy A holds s ran old.written new.written)
  part_less None old new is = tt
  part_less (Some ran) old new is = (is.0, is.1, is.2, text_less is.0 is.2 is.3, is.4)

  pub journalled_less : (workers : ℕ) (old new : SinkState) (answer : Result (OpenAccount TcpReading TcpWriting A × Remembered A) (ServeHalted A))
      → IsJournalledBy more s workers old new answer → IsJournalledBy holds s workers old new answer
  journalled_less workers old new (Ok done) is = record {
    crew = is.crew;
    bad_workers = is.bad_workers;
    fault = is.fault;
    ran = is.ran;
    written = (is.written.0, text_less done.1 is.written.0 is.written.1, is.written.2);
    report = is.report;
    unfailed = is.unfailed;
    account = less done.0 is.account;
    part = is.part;
    full = is.full;
    remembered = is.remembered;
  }
  journalled_less workers old new (Err halted) is = record {
    crew = is.crew;
    bad_workers = is.bad_workers;
    fault = is.fault;
    ran = is.ran;
    written = is.written;
    report = is.report;
    unfailed = is.unfailed;
    account = is.account;
    part = is.part;
    full = is.full;
    remembered = part_less halted.ran old new is.remembered;
  }

-- what holds of an account that went on, by both that is known of it
pub past_account : {A E : Type 0} (recalls again pings : Bool) (batch : ℕ) (s : Config) (peers : List SocketAddr) (workers : ℕ)
    (answer : Result (OpenAccount TcpReading TcpWriting A × Remembered A) E) → IfOk answer (λ done. IsResumedAccount again s peers workers done.0)
    → (recalls ≡ false → IfOk answer (λ done. IsAnyAccount again pings batch s peers workers done.0))
    → IfOk answer (λ done. IsPastAccount recalls again pings batch s peers workers done.0)
past_account recalls again pings batch s peers workers (Ok done) resumed any = (resumed, any)
past_account recalls again pings batch s peers workers (Err e) resumed any = tt
