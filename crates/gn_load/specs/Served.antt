-- The history of a run over TCP, as it is written.
use Rattle.std.specs.Prelude.{◌≡◌, ◌↔◌, ◌⊎◌, ◌+◌, ℕ, Bool, true, List, length, reverse, IfErr, IfOk, IfSome, OnOk, Option, Some, Result}
use Rattle.std.specs.declared.net.socket_addr.SocketAddr.{SocketAddr}
use Rattle.std.specs.Io.KnownBytes.{Appends, Keeps}
use Rattle.gn_rules.specs.declared.config.Config.{Config}
use Rattle.gn_rules.specs.declared.receipt.Step.{Step}
use Rattle.gn_rules.specs.Answer.{IsLegal}
use Rattle.gn_rules.specs.Limits.{IsCrew}
use Rattle.gn_report.specs.declared.report.Report.{Report}
use Rattle.gn_sockets.specs.TcpHalves.{TcpReading, TcpWriting, half_read, half_written}
use Rattle.gn_start.specs.Faults.{IsArrivingFault}
use Rattle.gn_start.specs.declared.fault.RunFault.{RunFault}
use Rattle.gn_start.specs.declared.fault.RunFault.TheVariants.{BadWorkers, HistoryFull, NoMemory}
use Rattle.gn_threads.specs.Headline.{AreMadeOf, AreOfOne, Holds}
use Rattle.gn_capture.specs.Histories.{history_text}
use Rattle.gn_io.specs.Parts.{AppendsPart}
use Rattle.gn_io.specs.Streams.{SinkState, HasWriteFailed, NoWriteFailed}
use Rattle.gn_service.specs.Links.{origins_of, roles_of}
use Rattle.gn_service.specs.Ran.{Remembered, ran_of}
use Rattle.gn_load.specs.declared.serve_fault.ServeFault.{ServeFault}
use Rattle.gn_load.specs.declared.serve_fault.ServeFault.TheVariants.{Run, Write}
use Rattle.gn_load.specs.declared.serve_stopped.ServeStopped.{ServeStopped}

-- a text is the history of the run that is remembered, one of this configuration with so many workers, over links to these peers
-- and to so many that call, whose writers write at most so many packets at once: all of the headline holds of its report, its links
-- were met as those peers say, the halves of each over one socket, and the text is that of its history
pub record IsServedText (A : Type 0) (batch : ℕ) (s : Config) (peers : List SocketAddr) (accept workers : ℕ) (ran : Remembered A)
    (text : List ℕ) : Type 0 where
  pub report : Report TcpReading TcpWriting A
  pub remembered : ran ≡ ran_of report
  pub holds : Holds batch half_read half_written s (roles_of (length peers) (length peers + accept)) workers report
  pub made :
      AreMadeOf (λ half. half.origin) (λ half. half.origin) (origins_of peers (length peers + accept)) report
  pub one_socket : AreOfOne (λ half. half.socket) (λ half. half.socket) report
  pub printed : text ≡ history_text s ran.steps

-- known bytes grew by the text of such a history
abbrev pub AppendsServed :
    (A : Type 0) → ℕ → Config → List SocketAddr → ℕ → ℕ → Remembered A → Option (List ℕ) → Option (List ℕ) → Type 0
AppendsServed A batch s peers accept workers ran old new =
    (text : List ℕ) × IsServedText A batch s peers accept workers ran text × Appends old new text

-- a run is remembered, and known bytes grew by a prefix of the text of its history
abbrev pub AppendsServedPart :
    (A : Type 0) → ℕ → Config → List SocketAddr → ℕ → ℕ → Option (Remembered A) → Option (List ℕ) → Option (List ℕ) → Type 0
AppendsServedPart A batch s peers accept workers remembered old new =
    (ran : Remembered A) × (remembered ≡ Some ran)
    × (text : List ℕ) × IsServedText A batch s peers accept workers ran text × AppendsPart old new text

-- known bytes grew by a prefix of the text of the history of such a run, which isn't remembered any more
abbrev pub AppendsSomePart :
    (A : Type 0) → ℕ → Config → List SocketAddr → ℕ → ℕ → Option (List ℕ) → Option (List ℕ) → Type 0
AppendsSomePart A batch s peers accept workers old new =
    (remembered : Option (Remembered A)) × AppendsServedPart A batch s peers accept workers remembered old new

-- a text is the history of a run of this configuration that stopped at this fault: each of its answers is the one that the rules
-- give, and where the history is full it has as many steps as it may have
pub record IsKeptText (A : Type 0) (s : Config) (fault : RunFault) (text : List ℕ) : Type 0 where
  pub steps : List (Step A)
  pub legal : IsLegal s (reverse steps)
  pub full : fault ≡ HistoryFull → length steps ≡ s.numbers.steps
  pub printed : text ≡ history_text s steps

-- nothing was written; or, where such a history is kept, a prefix of the text of one
abbrev pub HasKept : (A : Type 0) → Bool → Config → RunFault → Option (List ℕ) → Option (List ℕ) → Type 0
HasKept A is_kept s fault old new =
    Keeps old new ⊎ ((is_kept ≡ true) × (text : List ℕ) × IsKeptText A s fault text × AppendsPart old new text)

-- what was written at a fault, where `Part` says that known bytes grew by a prefix of the text of a history with a report: such a
-- prefix at Write, and maybe where memory ran out; where the run has no report, nothing, or what is kept of its history
abbrev pub HasServeStopped : (A : Type 0) → (Option (List ℕ) → Option (List ℕ) → Type 0) → Bool → Config → ServeFault
    → Option (List ℕ) → Option (List ℕ) → Type 0
HasServeStopped A Part is_kept s Write old new = Part old new
HasServeStopped A Part is_kept s (Run NoMemory) old new = HasKept A is_kept s NoMemory old new ⊎ Part old new
HasServeStopped A Part is_kept s (Run fault) old new = HasKept A is_kept s fault old new

-- what a fault may be where so many links and workers were asked for, 1 to 64 workers: one of such a run; or Write, where
-- a write failed or took nothing
abbrev pub IsServeFault : ℕ → ℕ → ServeFault → SinkState → SinkState → Type 0
IsServeFault links workers (Run fault) old new = IsArrivingFault true links workers fault
IsServeFault links workers Write old new = HasWriteFailed old new

-- what a run over TCP answers whose history is written once it has ended, and what was written by then: whether it is kept at a fault
-- is told, too
pub record IsHistoryKept {A : Type 0} (batch : ℕ) (s : Config) (peers : List SocketAddr) (accept workers : ℕ) (is_kept : Bool) (old new : SinkState)
    (answer : Result (Report TcpReading TcpWriting A × Remembered A) (ServeStopped A)) : Type 0 where
  pub crew : OnOk answer (IsCrew workers)
  pub bad_workers : IfErr answer (λ stopped. (stopped.fault ≡ Run BadWorkers) ↔ (¬ IsCrew workers))
  pub fault : IfErr answer (λ stopped. IsCrew workers → IsServeFault (length peers + accept) workers stopped.fault old new)
  pub ran : IfOk answer (λ done. done.1 ≡ ran_of done.0)
  pub written : IfOk answer (λ done. AppendsServed A batch s peers accept workers done.1 old.written new.written)
  pub report : IfOk answer (λ done. Appends old.written new.written (history_text s done.0.history.items))
  pub unfailed : OnOk answer (NoWriteFailed old new)
  pub holds : IfOk answer (λ done. Holds batch half_read half_written s (roles_of (length peers) (length peers + accept)) workers done.0)
  pub made : IfOk answer (λ done. AreMadeOf (λ half. half.origin) (λ half. half.origin) (origins_of peers (length peers + accept)) done.0)
  pub one_socket : IfOk answer (λ done. AreOfOne (λ half. half.socket) (λ half. half.socket) done.0)
  pub stopped : IfErr answer (λ stopped. HasServeStopped A (AppendsServedPart A batch s peers accept workers stopped.ran)
      is_kept s stopped.fault old.written new.written)
  pub kept : IfErr answer (λ stopped. IfSome stopped.history (λ history. IsLegal s (reverse history.items)))
  pub full : IfErr answer (λ stopped. stopped.fault ≡ Run HistoryFull → IfSome stopped.history (λ history. length history.items ≡ s.numbers.steps))

-- the same, where nothing is remembered, and no history given back
pub record IsHistoryServed {A : Type 0} (batch : ℕ) (s : Config) (peers : List SocketAddr) (accept workers : ℕ) (is_kept : Bool) (old new : SinkState)
    (answer : Result (Report TcpReading TcpWriting A) ServeFault) : Type 0 where
  pub crew : OnOk answer (IsCrew workers)
  pub bad_workers : IfErr answer (λ fault. (fault ≡ Run BadWorkers) ↔ (¬ IsCrew workers))
  pub fault : IfErr answer (λ fault. IsCrew workers → IsServeFault (length peers + accept) workers fault old new)
  pub written : IfOk answer (λ report. AppendsServed A batch s peers accept workers (ran_of report) old.written new.written)
  pub report : IfOk answer (λ report. Appends old.written new.written (history_text s report.history.items))
  pub unfailed : OnOk answer (NoWriteFailed old new)
  pub holds : IfOk answer (λ report. Holds batch half_read half_written s (roles_of (length peers) (length peers + accept)) workers report)
  pub made : IfOk answer (λ report. AreMadeOf (λ half. half.origin) (λ half. half.origin) (origins_of peers (length peers + accept)) report)
  pub one_socket : IfOk answer (λ report. AreOfOne (λ half. half.socket) (λ half. half.socket) report)
  pub stopped : IfErr answer (λ fault. HasServeStopped A (AppendsSomePart A batch s peers accept workers)
      is_kept s fault old.written new.written)
