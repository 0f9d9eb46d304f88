-- What a run over TCP answers that takes any number of callers.
use Rattle.std.proofs.Common.{◌≡◌, ◌⊎◌, ◌≤◌, ◌+◌, ◌∙◌, ℕ, Bool, true, List, length, reverse, Some, Result, Ok, Err, sym, subst, inl, inr, arith}
use Rattle.std.specs.Prelude.{IfSome, MatchResult}
use Rattle.std.specs.declared.net.socket_addr.SocketAddr.{SocketAddr}
use Rattle.gn_rules.specs.Answer.{IsLegal}
use Rattle.gn_rules.specs.declared.config.Config.{Config}
use Rattle.gn_rules.specs.declared.receipt.Step.{Step}
use Rattle.gn_sockets.specs.TcpHalves.{TcpReading, TcpWriting}
use Rattle.gn_start.specs.Faults.{IsArrivingFault}
use Rattle.gn_start.specs.declared.fault.RunFault.{RunFault}
use Rattle.gn_start.specs.declared.fault.RunFault.TheVariants.{BadWorkers, HistoryFull}
use Rattle.gn_threads.specs.OpenRuns.{AreOpenStepsOf, IsOpenAnswer, IsOpenFault, IsRecalledAnswer}
use Rattle.gn_threads.specs.declared.halted.Halted.{Halted}
use Rattle.gn_threads.specs.declared.open_account.OpenAccount.{OpenAccount}
use Rattle.gn_service.specs.Any.{IsAnyAccount, IsLinkOf, IsResumedAccount, IsServedAfter, open_account, tcp_views}

-- the links are numbered from 0 on
pub from_first : {A : Type 0} (again pings : Bool) (batch : ℕ) (s : Config) (peers : List SocketAddr) (workers : ℕ) (account : OpenAccount TcpReading TcpWriting A)
    → IsOpenAnswer pings tcp_views (λ origin. origin.0) batch s workers (λ k role origin. IsLinkOf again peers (0 + k) role origin) account
    → IsAnyAccount again pings batch s peers workers account
from_first again pings batch s peers workers account h =
    record {
      ended = h.ended;
      may_come = λ k link at. let first : 0 + k ≡ k = omega arith in subst (λ n. IsLinkOf again peers n link.role link.reader.origin) first (h.may_come k link at);
    }

-- so whatever steps were made before
pub resumed_first : {A : Type 0} (again : Bool) (s : Config) (peers : List SocketAddr) (workers : ℕ) (account : OpenAccount TcpReading TcpWriting A)
    → IsRecalledAnswer tcp_views (λ origin. origin.0) s workers (λ k role origin. IsLinkOf again peers (0 + k) role origin) account
    → IsResumedAccount again s peers workers account
resumed_first again s peers workers account h =
    record {
      kept = h.kept;
      may_come = λ k link at. let first : 0 + k ≡ k = omega arith in subst (λ n. IsLinkOf again peers n link.role link.reader.origin) first (h.may_come k link at);
    }

-- a run with an account that has failed
failed_at : {A : Type 0} (recalls again pings : Bool) (batch : ℕ) (s : Config) (peers : List SocketAddr) (workers : ℕ) (account : OpenAccount TcpReading TcpWriting A) (after : Halted A) (fault : RunFault)
    → IsServedAfter recalls again pings batch s peers workers open_account (Ok account) → (after.fault ≡ fault) × (after.history ≡ Some account.history) → ¬ (fault ≡ BadWorkers) → ¬ (fault ≡ HistoryFull)
    → ((links workers : ℕ) → length peers ≤ links → IsArrivingFault true links workers fault) → IsServedAfter recalls again pings batch s peers workers open_account (Err after)
failed_at recalls again pings batch s peers workers account after fault served is crew space may =
    let at = is.0 in
    let run = served.answered.run in
    record {
      answered = record {
        run = record {
          crew = tt;
          bad_workers = (λ bad. absurd (crew (sym at ∙ bad)), λ none. absurd (none run.crew));
          fault = λ _. subst (λ (f : RunFault). IsOpenFault true workers f) (sym at) (length peers, may (length peers) workers (omega arith));
          holds = tt;
          made = tt;
        };
        kept = subst (λ h. IfSome h (λ history. IsLegal s (reverse history.items))) (sym is.1) served.resumed.kept.legal;
        full = λ full. absurd (space (sym at ∙ full));
      };
      resumed = tt;
      account = λ none. tt;
    }

-- a run that stopped and has failed for a call, too
failed_too : {A : Type 0} (recalls again pings : Bool) (batch : ℕ) (s : Config) (peers : List SocketAddr) (workers : ℕ) (halted after : Halted A) (fault : RunFault)
    → IsServedAfter recalls again pings batch s peers workers open_account (Err halted) → (after.fault ≡ halted.fault) ⊎ ((after.fault ≡ fault) × (¬ (halted.fault ≡ BadWorkers)))
    → after.history ≡ halted.history → ¬ (fault ≡ BadWorkers) → ¬ (fault ≡ HistoryFull)
    → ((links workers : ℕ) → length peers ≤ links → IsArrivingFault true links workers fault) → IsServedAfter recalls again pings batch s peers workers open_account (Err after)
failed_too recalls again pings batch s peers workers halted after fault served either same crew space may =
    let answered = served.answered in
    let kept = subst (λ h. IfSome h (λ history. IsLegal s (reverse history.items))) (sym same) answered.kept in
    elim either as (λ _. IsServedAfter recalls again pings batch s peers workers open_account (Err after)) [
      | inl is ↦ record {
        answered = record {
          run = record {
            crew = tt;
            bad_workers = (λ bad. answered.run.bad_workers.0 (sym is ∙ bad), λ none. is ∙ answered.run.bad_workers.1 none);
            fault = λ few. subst (λ (f : RunFault). IsOpenFault true workers f) (sym is) (answered.run.fault few);
            holds = tt;
            made = tt;
          };
          kept = kept;
          full = λ all. subst (λ h. IfSome h (λ history. length history.items ≡ s.numbers.steps)) (sym same) (answered.full (sym is ∙ all));
        };
        resumed = tt;
        account = λ none. tt;
      }
      | inr later ↦ record {
        answered = record {
          run = record {
            crew = tt;
            bad_workers = (λ bad. absurd (crew (sym later.0 ∙ bad)), λ none. absurd (later.1 (answered.run.bad_workers.1 none)));
            fault = λ _. subst (λ (f : RunFault). IsOpenFault true workers f) (sym later.0) (length peers, may (length peers) workers (omega arith));
            holds = tt;
            made = tt;
          };
          kept = kept;
          full = λ all. absurd (space (sym later.0 ∙ all));
        };
        resumed = tt;
        account = λ none. tt;
      }
    ]

-- a run that answered, and has failed for a call
pub failed_for : {A : Type 0} (recalls again pings : Bool) (batch : ℕ) (s : Config) (peers : List SocketAddr) (workers : ℕ) (answer : Result (OpenAccount TcpReading TcpWriting A) (Halted A)) (after : Halted A) (fault : RunFault)
    → IsServedAfter recalls again pings batch s peers workers open_account answer
    → MatchResult answer (λ _. after.fault ≡ fault) (λ halted. (after.fault ≡ halted.fault) ⊎ ((after.fault ≡ fault) × (¬ (halted.fault ≡ BadWorkers))))
    → MatchResult answer (λ account. after.history ≡ Some account.history) (λ halted. after.history ≡ halted.history)
    → ¬ (fault ≡ BadWorkers) → ¬ (fault ≡ HistoryFull)
    → ((links workers : ℕ) → length peers ≤ links → IsArrivingFault true links workers fault) → IsServedAfter recalls again pings batch s peers workers open_account (Err after)
failed_for recalls again pings batch s peers workers (Ok account) after fault served at same crew space may =
    failed_at recalls again pings batch s peers workers account after fault served (at, same) crew space may
failed_for recalls again pings batch s peers workers (Err halted) after fault served at same crew space may =
    failed_too recalls again pings batch s peers workers halted after fault served at same crew space may

-- its steps are the same
pub cut_steps : {A : Type 0} (answer : Result (OpenAccount TcpReading TcpWriting A) (Halted A)) (after : Halted A)
    → MatchResult answer (λ account. after.history ≡ Some account.history) (λ halted. after.history ≡ halted.history)
    → (steps : List (Step A)) → AreOpenStepsOf answer steps → AreOpenStepsOf {Rd = TcpReading} {W = TcpWriting} (Err after) steps
cut_steps (Ok account) after same steps held = subst (λ h. IfSome h (λ history. history.items ≡ steps)) (sym same) held
cut_steps (Err halted) after same steps held = subst (λ h. IfSome h (λ history. history.items ≡ steps)) (sym same) held
