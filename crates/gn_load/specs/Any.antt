-- The history of a run over TCP that takes any number of callers, and of one whatever number that is.
use Rattle.std.specs.Prelude.{◌≡◌, ◌↔◌, ◌+◌, ℕ, Bool, false, true, List, length, IfErr, IfOk, IfSome, OnOk, Option, None, Some, Result}
use Rattle.std.specs.declared.net.socket_addr.SocketAddr.{SocketAddr}
use Rattle.std.specs.Io.KnownBytes.{Appends}
use Rattle.gn_rules.specs.Limits.{IsCrew}
use Rattle.gn_rules.specs.declared.config.Config.{Config}
use Rattle.gn_capture.specs.Histories.{history_text}
use Rattle.gn_io.specs.Parts.{AppendsPart}
use Rattle.gn_io.specs.Streams.{NoWriteFailed, SinkState}
use Rattle.gn_report.specs.Accounts.{report_of}
use Rattle.gn_service.specs.Any.{IsAnyAccount, IsResumedAccount, ran_of_any}
use Rattle.gn_service.specs.Links.{origins_of, roles_of}
use Rattle.gn_service.specs.Ran.{Remembered, ran_of}
use Rattle.gn_sockets.specs.TcpHalves.{TcpReading, TcpWriting, half_read, half_written}
use Rattle.gn_start.specs.declared.fault.RunFault.TheVariants.{BadWorkers, HistoryFull}
use Rattle.gn_threads.specs.Courses.{AreTallies}
use Rattle.gn_threads.specs.Headline.{AreMadeOf, AreOfOne, Holds}
use Rattle.gn_threads.specs.declared.open_account.OpenAccount.{OpenAccount}
use Rattle.gn_load.specs.declared.serve_fault.ServeFault.{ServeFault}
use Rattle.gn_load.specs.declared.serve_fault.ServeFault.TheVariants.{Run}
use Rattle.gn_load.specs.declared.serve_halted.ServeHalted.{ServeHalted}
use Rattle.gn_load.specs.declared.taken.Taken.{Taken}
use Rattle.gn_load.specs.declared.taken.Taken.TheVariants.{All, Any}
use Rattle.gn_load.specs.Journalled.{AppendsLegalPart}
use Rattle.gn_load.specs.Served.{AppendsServed, AppendsServedPart, IsServeFault}

-- a text is the history of the run that is remembered. That run has an account of which this holds
pub record IsTextBy (A : Type 0) (holds : OpenAccount TcpReading TcpWriting A → Type 0) (s : Config) (ran : Remembered A) (text : List ℕ) : Type 0 where
  pub account : OpenAccount TcpReading TcpWriting A
  pub remembered : ran ≡ ran_of_any account
  pub answered : holds account
  pub printed : text ≡ history_text s ran.steps

-- known bytes grew by the text of such a history
abbrev pub AppendsBy :
    (A : Type 0) → (OpenAccount TcpReading TcpWriting A → Type 0) → Config → Remembered A → Option (List ℕ) → Option (List ℕ) → Type 0
AppendsBy A holds s ran old new = (text : List ℕ) × IsTextBy A holds s ran text × Appends old new text

-- a run is remembered, and known bytes grew by a prefix of the text of its history
abbrev pub AppendsPartBy :
    (A : Type 0) → (OpenAccount TcpReading TcpWriting A → Type 0) → Config → Option (Remembered A) → Option (List ℕ) → Option (List ℕ) → Type 0
AppendsPartBy A holds s remembered old new =
    (ran : Remembered A) × (remembered ≡ Some ran) × (text : List ℕ) × IsTextBy A holds s ran text × AppendsPart old new text

-- what a run answers that takes any number of callers, and of whose account this holds, and what was written by then
pub record IsJournalledBy {A : Type 0} (holds : OpenAccount TcpReading TcpWriting A → Type 0) (s : Config) (workers : ℕ)
    (old new : SinkState) (answer : Result (OpenAccount TcpReading TcpWriting A × Remembered A) (ServeHalted A)) : Type 0 where
  pub crew : OnOk answer (IsCrew workers)
  pub bad_workers : IfErr answer (λ halted. (halted.fault ≡ Run BadWorkers) ↔ (¬ IsCrew workers))
  -- a fault is one of a run over some number of links
  pub fault : IfErr answer (λ halted. IsCrew workers → (came : ℕ) × IsServeFault came workers halted.fault old new)
  -- it is remembered, and the text of its history was written, whole; no write failed
  pub ran : IfOk answer (λ done. done.1 ≡ ran_of_any done.0)
  pub written : IfOk answer (λ done. AppendsBy A holds s done.1 old.written new.written)
  pub report : IfOk answer (λ done. Appends old.written new.written (history_text s done.0.history.items))
  pub unfailed : OnOk answer (NoWriteFailed old new)
  pub account : IfOk answer (λ done. holds done.0)
  -- at a fault a prefix of the text of a history was written, which is legal whatever the fault
  pub part : IfErr answer (λ halted. AppendsLegalPart A s halted.history old.written new.written)
  pub full : IfErr answer (λ halted. halted.fault ≡ Run HistoryFull
      → IfSome halted.history (λ history. length history.items ≡ s.numbers.steps))
  -- where the run itself has an account, that history is its
  pub remembered : IfErr answer (λ halted. IfSome halted.ran (λ _.
      AppendsPartBy A holds s halted.ran old.written new.written))

-- a text is the history of a run of this configuration and so many workers: its first links go to these peers, in order, as far as there are
-- links, its others called, or go to peers that are called again, where they are; its own servent sends Pings or not, and its writers write at
-- most so many packets at once
abbrev pub IsAnyText : (A : Type 0) → Bool → Bool → ℕ → Config → List SocketAddr → ℕ → Remembered A → List ℕ → Type 0
IsAnyText A again pings batch s peers workers ran text =
    IsTextBy A (λ account. IsAnyAccount again pings batch s peers workers account) s ran text

-- known bytes grew by the text of such a history
abbrev pub AppendsAny :
    (A : Type 0) → Bool → Bool → ℕ → Config → List SocketAddr → ℕ → Remembered A → Option (List ℕ) → Option (List ℕ) → Type 0
AppendsAny A again pings batch s peers workers ran old new =
    AppendsBy A (λ account. IsAnyAccount again pings batch s peers workers account) s ran old new

-- or by a prefix of it
abbrev pub AppendsAnyPart :
    (A : Type 0) → Bool → Bool → ℕ → Config → List SocketAddr → ℕ → Option (Remembered A) → Option (List ℕ) → Option (List ℕ) → Type 0
AppendsAnyPart A again pings batch s peers workers remembered old new =
    AppendsPartBy A (λ account. IsAnyAccount again pings batch s peers workers account) s remembered old new

-- what such a run answers, and what was written by then
abbrev pub IsJournalledAny :
    {A : Type 0} → Bool → Bool → ℕ → Config → List SocketAddr → ℕ → SinkState → SinkState
    → Result (OpenAccount TcpReading TcpWriting A × Remembered A) (ServeHalted A) → Type 0
IsJournalledAny again pings batch s peers workers old new answer =
    IsJournalledBy (λ account. IsAnyAccount again pings batch s peers workers account) s workers old new answer

-- so of one that went on with the steps of before
abbrev pub IsJournalledAfter :
    {A : Type 0} → Bool → Config → List SocketAddr → ℕ → SinkState → SinkState
    → Result (OpenAccount TcpReading TcpWriting A × Remembered A) (ServeHalted A) → Type 0
IsJournalledAfter again s peers workers old new answer =
    IsJournalledBy (λ account. IsResumedAccount again s peers workers account) s workers old new answer

-- what holds of the account of a run that went on with steps of before, where there were any
abbrev pub IsPastAccount : {A : Type 0} → Bool → Bool → Bool → ℕ → Config → List SocketAddr → ℕ → OpenAccount TcpReading TcpWriting A → Type 0
IsPastAccount recalls again pings batch s peers workers account =
    IsResumedAccount again s peers workers account × (recalls ≡ false → IsAnyAccount again pings batch s peers workers account)

-- what holds of the account of a run that takes any number of callers, and went on with steps of before or not
abbrev pub holds_any : {A : Type 0} → Bool → Bool → Bool → ℕ → Config → List SocketAddr → ℕ → OpenAccount TcpReading TcpWriting A → Type 0
holds_any false again pings batch s peers workers account = IsAnyAccount again pings batch s peers workers account
holds_any true again pings batch s peers workers account = IsResumedAccount again s peers workers account

-- known bytes grew by the text of the history of a run to which so many call, or any number
abbrev pub AppendsTaken :
    (A : Type 0) → Bool → Bool → Bool → ℕ → Config → List SocketAddr → Option ℕ → ℕ → Remembered A → Option (List ℕ) → Option (List ℕ) → Type 0
AppendsTaken A resumes again pings batch s peers (Some accept) workers ran old new = AppendsServed A batch s peers accept workers ran old new
AppendsTaken A resumes again pings batch s peers None workers ran old new =
    AppendsBy A (λ account. holds_any resumes again pings batch s peers workers account) s ran old new

-- or by a prefix of it
abbrev pub AppendsTakenPart :
    (A : Type 0) → Bool → Bool → Bool → ℕ → Config → List SocketAddr → Option ℕ → ℕ → Option (Remembered A) → Option (List ℕ) → Option (List ℕ) → Type 0
AppendsTakenPart A resumes again pings batch s peers (Some accept) workers remembered old new =
    AppendsServedPart A batch s peers accept workers remembered old new
AppendsTakenPart A resumes again pings batch s peers None workers remembered old new =
    AppendsPartBy A (λ account. holds_any resumes again pings batch s peers workers account) s remembered old new

-- what a fault of such a run may be that calls so many peers
abbrev pub IsTakenFault : ℕ → Option ℕ → ℕ → ServeFault → SinkState → SinkState → Type 0
IsTakenFault peers (Some accept) workers fault old new = IsServeFault (peers + accept) workers fault old new
IsTakenFault peers None workers fault old new = (came : ℕ) × IsServeFault came workers fault old new

-- an account is that of the run that is remembered. Where so many call, all of the headline holds of the report that it tells, its links
-- were met as these peers say, and the halves of each are over one socket; where any number calls, its first links go to these peers, in
-- order, as far as there are links, and its others called, or go to peers that are called again, where they are
abbrev pub IsTaken : {A : Type 0} → Bool → Bool → Bool → ℕ → Config → List SocketAddr → Option ℕ → ℕ → Remembered A → Taken A → Type 0
IsTaken resumes again pings batch s peers (Some accept) workers ran (All account) =
    (ran ≡ ran_of (report_of account))
    × Holds batch half_read half_written s (roles_of (length peers) (length peers + accept)) workers (report_of account)
    × AreMadeOf (λ half. half.origin) (λ half. half.origin) (origins_of peers (length peers + accept)) (report_of account)
    × AreOfOne (λ half. half.socket) (λ half. half.socket) (report_of account)
IsTaken resumes again pings batch s peers None workers ran (Any account) =
    (ran ≡ ran_of_any account) × holds_any resumes again pings batch s peers workers account
IsTaken resumes again pings batch s peers accept workers ran taken = ⊥

-- what is told at a fault of the links of a run to which so many call and that calls so many peers: tallies, those of its history, where
-- both stand; where any number calls, nothing
abbrev pub AreTold : {A : Type 0} → ℕ → Option ℕ → ServeHalted A → Type 0
AreTold peers (Some accept) halted =
    IfSome halted.history (λ history. IfSome halted.links (λ tallies. AreTallies history.items (peers + accept) tallies.items))
AreTold peers None halted = halted.links ≡ None

-- what such a run answers, which went on with steps of before or not, and what was written by then
pub record IsJournalledTaken {A : Type 0} (resumes again pings : Bool) (batch : ℕ) (s : Config) (peers : List SocketAddr) (accept : Option ℕ)
    (workers : ℕ) (old new : SinkState) (answer : Result (Taken A × Remembered A) (ServeHalted A)) : Type 0 where
  pub crew : OnOk answer (IsCrew workers)
  pub bad_workers : IfErr answer (λ halted. (halted.fault ≡ Run BadWorkers) ↔ (¬ IsCrew workers))
  pub fault : IfErr answer (λ halted. IsCrew workers → IsTakenFault (length peers) accept workers halted.fault old new)
  pub account : IfOk answer (λ done. IsTaken resumes again pings batch s peers accept workers done.1 done.0)
  pub written : IfOk answer (λ done. AppendsTaken A resumes again pings batch s peers accept workers done.1 old.written new.written)
  pub unfailed : OnOk answer (NoWriteFailed old new)
  pub part : IfErr answer (λ halted. AppendsLegalPart A s halted.history old.written new.written)
  pub full : IfErr answer (λ halted. halted.fault ≡ Run HistoryFull
      → IfSome halted.history (λ history. length history.items ≡ s.numbers.steps))
  pub tallied : IfErr answer (λ halted. AreTold (length peers) accept halted)
  pub remembered : IfErr answer (λ halted. IfSome halted.ran (λ _.
      AppendsTakenPart A resumes again pings batch s peers accept workers halted.ran old.written new.written))
