-- What a run over TCP answers that has failed for one of its calls.
use Rattle.std.proofs.Common.{◌≡◌, ◌⊎◌, ◌≤◌, ◌+◌, ◌∙◌, ℕ, true, List, length, reverse, Some, Result, Ok, Err, sym, subst, inl, inr, arith}
use Rattle.std.specs.Prelude.{IfSome, MatchResult}
use Rattle.std.specs.declared.net.socket_addr.SocketAddr.{SocketAddr}
use Rattle.gn_rules.specs.Answer.{IsLegal}
use Rattle.gn_rules.specs.Limits.{IsCrew}
use Rattle.gn_rules.specs.declared.config.Config.{Config}
use Rattle.gn_rules.specs.declared.receipt.Step.{Step}
use Rattle.gn_report.specs.declared.account.Account.{Account}
use Rattle.gn_report.specs.declared.report.Report.{Report}
use Rattle.gn_report.specs.Told.{Tells}
use Rattle.gn_sockets.specs.TcpHalves.{TcpReading, TcpWriting}
use Rattle.gn_threads.specs.Answers.{halted_views, stopped_views}
use Rattle.gn_threads.specs.Courses.{AreStepsOf}
use Rattle.gn_start.specs.Faults.{IsArrivingFault}
use Rattle.gn_start.specs.declared.fault.RunFault.{RunFault}
use Rattle.gn_start.specs.declared.fault.RunFault.TheVariants.{BadWorkers, HistoryFull}
use Rattle.gn_threads.specs.declared.halted.Halted.{Halted}
use Rattle.gn_threads.specs.declared.stopped.Stopped.{Stopped}
use Rattle.gn_threads.specs.Told.{IsStoppedOf}
use Rattle.gn_threads.proofs.AnsweredLemmas.{stopped_bad, stopped_fault, stopped_full, stopped_keeps}
use Rattle.gn_threads.proofs.ToldLemmas.{holds_told, made_told, one_told}
use Rattle.gn_service.specs.Ran.{Remembered}
use Rattle.gn_service.specs.Serves.{IsServed, IsTallied, served_account, served_report}
use Rattle.gn_service.specs.Tallies.{tallies_of}
use Rattle.gn_service.proofs.TallyLemmas.{tallied_as, tallies_as}

-- a run with an account that has failed
failed_at : {A : Type 0} (batch : ℕ) (s : Config) (peers : List SocketAddr) (accept workers : ℕ) (account : Account TcpReading TcpWriting A) (after : Halted A) (fault : RunFault)
    → IsTallied batch s peers accept workers (Ok account) → after.fault ≡ fault → after.history ≡ Some account.history
    → IfSome after.links (λ tallies. tallies.items ≡ tallies_of account.links.items) → ¬ (fault ≡ BadWorkers) → ¬ (fault ≡ HistoryFull)
    → ((links workers : ℕ) → length peers ≤ links → IsArrivingFault true links workers fault) → IsTallied batch s peers accept workers (Err after)
failed_at batch s peers accept workers account after fault served at same tallies crew space may =
    let run = served.served.answered.run in
    record {
      served = record {
        answered = record {
          run = record {
            crew = tt;
            bad_workers = (λ is. absurd (crew (sym at ∙ is)), λ none. absurd (none run.crew));
            fault = λ _. subst (λ (f : RunFault). IsArrivingFault true (length peers + accept) workers f) (sym at) (may (length peers + accept) workers (omega arith));
            holds = tt;
            made = tt;
          };
          kept = subst (λ h. IfSome h (λ history. IsLegal s (reverse history.items))) (sym same) run.holds.legal;
          full = λ is. absurd (space (sym at ∙ is));
        };
        one_socket = tt;
      };
      tallied = tallied_as batch s (length peers) (length peers + accept) (omega arith) workers account run.holds after.history after.links same tallies;
    }

-- a run that stopped and has failed for a call, too
failed_too : {A : Type 0} (batch : ℕ) (s : Config) (peers : List SocketAddr) (accept workers : ℕ) (halted after : Halted A) (fault : RunFault)
    → IsTallied batch s peers accept workers (Err halted) → (after.fault ≡ halted.fault) ⊎ ((after.fault ≡ fault) × (¬ (halted.fault ≡ BadWorkers)))
    → (after.history ≡ halted.history) × (after.links ≡ halted.links) → ¬ (fault ≡ BadWorkers) → ¬ (fault ≡ HistoryFull)
    → ((links workers : ℕ) → length peers ≤ links → IsArrivingFault true links workers fault) → IsTallied batch s peers accept workers (Err after)
failed_too batch s peers accept workers halted after fault served either same crew space may =
    let answered = served.served.answered in
    let kept = subst (λ h. IfSome h (λ history. IsLegal s (reverse history.items))) (sym same.0) answered.kept in
    let tallied = tallies_as (length peers + accept) halted.history after.history halted.links after.links same.0 same.1 served.tallied in
    elim either as (λ _. IsTallied batch s peers accept workers (Err after)) [
      | inl is ↦ record {
        served = record {
          answered = record {
            run = record {
              crew = tt;
              bad_workers = (λ bad. answered.run.bad_workers.0 (sym is ∙ bad), λ none. is ∙ answered.run.bad_workers.1 none);
              fault = λ few. subst (λ (f : RunFault). IsArrivingFault true (length peers + accept) workers f) (sym is) (answered.run.fault few);
              holds = tt;
              made = tt;
            };
            kept = kept;
            full = λ all. subst (λ h. IfSome h (λ history. length history.items ≡ s.numbers.steps)) (sym same.0) (answered.full (sym is ∙ all));
          };
          one_socket = tt;
        };
        tallied = tallied;
      }
      | inr later ↦ record {
        served = record {
          answered = record {
            run = record {
              crew = tt;
              bad_workers = (λ bad. absurd (crew (sym later.0 ∙ bad)), λ none. absurd (later.1 (answered.run.bad_workers.1 none)));
              fault = λ _. subst (λ (f : RunFault). IsArrivingFault true (length peers + accept) workers f) (sym later.0) (may (length peers + accept) workers (omega arith));
              holds = tt;
              made = tt;
            };
            kept = kept;
            full = λ all. absurd (space (sym later.0 ∙ all));
          };
          one_socket = tt;
        };
        tallied = tallied;
      }
    ]

-- a run that answered, and has failed for a call
pub failed_for : {A : Type 0} (batch : ℕ) (s : Config) (peers : List SocketAddr) (accept workers : ℕ) (answer : Result (Account TcpReading TcpWriting A) (Halted A)) (after : Halted A) (fault : RunFault)
    → IsTallied batch s peers accept workers answer
    → MatchResult answer (λ _. after.fault ≡ fault) (λ halted. (after.fault ≡ halted.fault) ⊎ ((after.fault ≡ fault) × (¬ (halted.fault ≡ BadWorkers))))
    → MatchResult answer (λ account. after.history ≡ Some account.history) (λ halted. after.history ≡ halted.history)
    → MatchResult answer (λ account. IfSome after.links (λ tallies. tallies.items ≡ tallies_of account.links.items)) (λ halted. after.links ≡ halted.links)
    → ¬ (fault ≡ BadWorkers) → ¬ (fault ≡ HistoryFull)
    → ((links workers : ℕ) → length peers ≤ links → IsArrivingFault true links workers fault) → IsTallied batch s peers accept workers (Err after)
failed_for batch s peers accept workers (Ok account) after fault served at same tallies crew space may =
    failed_at batch s peers accept workers account after fault served at same tallies crew space may
failed_for batch s peers accept workers (Err halted) after fault served at same tallies crew space may =
    failed_too batch s peers accept workers halted after fault served at (same, tallies) crew space may

-- its steps are the same
pub failed_steps : {A : Type 0} (answer : Result (Account TcpReading TcpWriting A) (Halted A)) (after : Halted A)
    → MatchResult answer (λ account. after.history ≡ Some account.history) (λ halted. after.history ≡ halted.history)
    → (steps : List (Step A)) → AreStepsOf answer steps → AreStepsOf {Rd = TcpReading} {W = TcpWriting} (Err after) steps
failed_steps (Ok account) after same steps held = subst (λ h. IfSome h (λ history. history.items ≡ steps)) (sym same) held
failed_steps (Err halted) after same steps held = subst (λ h. IfSome h (λ history. history.items ≡ steps)) (sym same) held

-- what is answered with a report of the run, where an account of it is
pub served_told : {A : Type 0} (batch : ℕ) (s : Config) (peers : List SocketAddr) (accept workers : ℕ) (account : Account TcpReading TcpWriting A) (ran : Remembered A) (report : Report TcpReading TcpWriting A) (also : Remembered A)
    → Tells account report → IsServed {F = Halted A} batch s peers accept workers served_account halted_views (Ok (account, ran)) → IsServed {F = Stopped A} batch s peers accept workers served_report stopped_views (Ok (report, also))
served_told batch s peers accept workers account ran report also tells h =
    let run = h.answered.run in
    record {
      answered = record {
        run = record {
          crew = run.crew;
          bad_workers = tt;
          fault = tt;
          holds = holds_told account report tells _ _ _ _ _ _ run.holds;
          made = made_told account report tells _ _ _ run.made;
        };
        kept = tt;
        full = tt;
      };
      one_socket = one_told account report tells _ _ h.one_socket;
    }

-- where there is no memory for the report
pub untold : {A : Type 0} (batch : ℕ) (s : Config) (peers : List SocketAddr) (accept workers : ℕ) (account : Account TcpReading TcpWriting A) (ran : Remembered A) (stopped : Stopped A) → IsStoppedOf (Ok account) stopped
    → IsServed {F = Halted A} batch s peers accept workers served_account halted_views (Ok (account, ran)) → IsServed {Q = Report TcpReading TcpWriting A × Remembered A} batch s peers accept workers served_report stopped_views (Err stopped)
untold {A} batch s peers accept workers account ran stopped same h =
    let run = h.answered.run in
    let answer : Result (Account TcpReading TcpWriting A) (Halted A) = Ok account in
    record {
      answered = record {
        run = record {
          crew = tt;
          bad_workers = stopped_bad answer stopped workers same run.crew tt;
          fault = stopped_fault answer stopped (λ fault. IsCrew workers → IsArrivingFault true (length peers + accept) workers fault) same (λ _. tt) tt;
          holds = tt;
          made = tt;
        };
        kept = stopped_keeps (λ steps. IsLegal s (reverse steps)) answer stopped same run.holds.legal tt;
        full = stopped_full (λ steps. length steps ≡ s.numbers.steps) answer stopped same tt;
      };
      one_socket = tt;
    }

-- where it stopped
pub served_stopped : {A : Type 0} (batch : ℕ) (s : Config) (peers : List SocketAddr) (accept workers : ℕ) (halted : Halted A) (stopped : Stopped A) → IsStoppedOf {Rd = TcpReading} {W = TcpWriting} (Err halted) stopped
    → IsServed {Q = Account TcpReading TcpWriting A × Remembered A} batch s peers accept workers served_account halted_views (Err halted)
    → IsServed {Q = Report TcpReading TcpWriting A × Remembered A} batch s peers accept workers served_report stopped_views (Err stopped)
served_stopped {A} batch s peers accept workers halted stopped same h =
    let run = h.answered.run in
    let answer : Result (Account TcpReading TcpWriting A) (Halted A) = Err halted in
    record {
      answered = record {
        run = record {
          crew = tt;
          bad_workers = stopped_bad answer stopped workers same tt run.bad_workers;
          fault = stopped_fault answer stopped (λ fault. IsCrew workers → IsArrivingFault true (length peers + accept) workers fault) same tt run.fault;
          holds = tt;
          made = tt;
        };
        kept = stopped_keeps (λ steps. IsLegal s (reverse steps)) answer stopped same tt h.answered.kept;
        full = stopped_full (λ steps. length steps ≡ s.numbers.steps) answer stopped same h.answered.full;
      };
      one_socket = tt;
    }
