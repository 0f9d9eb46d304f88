-- A run over TCP whose history is written while it goes on.
use Rattle.std.specs.Prelude.{◌≡◌, ◌↔◌, ◌⊎◌, ◌+◌, ℕ, ⊤, List, [], ◌++◌, length, reverse, IfErr, IfOk, IfSome, MatchResult, OnOk, IsSome, Option, None, Some, Result, Ok, Err}
use Rattle.std.specs.declared.net.socket_addr.SocketAddr.{SocketAddr}
use Rattle.std.specs.Io.KnownBytes.{Appends}
use Rattle.std.specs.Result.{IsErrAnd}
use Rattle.rtrb.specs.Ring.{IsPair, received, sent}
use Rattle.gn_rules.specs.Answer.{IsLegal}
use Rattle.gn_rules.specs.Limits.{IsCrew}
use Rattle.gn_rules.specs.declared.config.Config.{Config}
use Rattle.gn_rules.specs.declared.receipt.Step.{Step}
use Rattle.gn_report.specs.declared.unkept.Unkept.{Unkept}
use Rattle.gn_text.specs.Header.{header_text}
use Rattle.gn_numbers.specs.declared.titles.Text.TheVariants.{History}
use Rattle.gn_capture.specs.Histories.{history_text, steps_text}
use Rattle.gn_io.specs.Parts.{AppendsPart}
use Rattle.gn_io.specs.Streams.{NoWriteFailed, SinkState}
use Rattle.gn_report.specs.Accounts.{report_of}
use Rattle.gn_report.specs.declared.account.Account.{Account}
use Rattle.gn_printed.specs.declared.ending.Waiting.{Waiting}
use Rattle.gn_printed.specs.declared.printed.PrintFault.{PrintFault}
use Rattle.gn_printed.specs.declared.printed.PrintFault.TheVariants as print
use Rattle.gn_printed.specs.Finished.{HasFinished}
use Rattle.gn_service.specs.Links.{origins_of, roles_of}
use Rattle.gn_service.specs.Ran.{Remembered, ran_of}
use Rattle.gn_sockets.specs.TcpHalves.{TcpReading, TcpWriting, half_read, half_written}
use Rattle.gn_threads.specs.Courses.{AreTallies}
use Rattle.gn_threads.specs.Headline.{AreMadeOf, AreOfOne, Holds}
use Rattle.gn_threads.specs.declared.halted.Halted.{Halted}
use Rattle.gn_start.specs.declared.fault.RunFault.{RunFault}
use Rattle.gn_start.specs.declared.fault.RunFault.TheVariants.{BadWorkers, HistoryFull, NoMemory}
use Rattle.gn_load.specs.declared.fresh.Fresh.{Fresh}
use Rattle.gn_load.specs.declared.serve_fault.ServeFault.{ServeFault}
use Rattle.gn_load.specs.declared.serve_fault.ServeFault.TheVariants.{Run, Write}
use Rattle.gn_load.specs.declared.serve_halted.ServeHalted.{ServeHalted}
use Rattle.gn_load.specs.Served.{AppendsServed, AppendsServedPart, IsServeFault}

-- the two ends of a ring that nothing went through yet, and the heading of a history by this configuration
abbrev pub IsFresh : Config → Fresh → Type 0
IsFresh s fresh =
    IsPair fresh.producer fresh.consumer × (sent fresh.producer ≡ []) × (received fresh.consumer ≡ []) × (fresh.heading ≡ header_text History s)

-- known bytes grew by a prefix of the text of a history that is legal by this configuration: of the one that is known; where none
-- is, of one without its line `end`
abbrev pub AppendsLegalPart : (A : Type 0) → Config → Option (Unkept (Step A)) → Option (List ℕ) → Option (List ℕ) → Type 0
AppendsLegalPart A s (Some history) old new =
    IsLegal s (reverse history.items) × AppendsPart old new (history_text s history.items)
AppendsLegalPart A s None old new =
    (steps : List (Step A)) × IsLegal s (reverse steps) × AppendsPart old new (header_text History s ++ steps_text steps)

-- the same, where it isn't told which is known
abbrev pub AppendsSomeLegalPart : (A : Type 0) → Config → Option (List ℕ) → Option (List ℕ) → Type 0
AppendsSomeLegalPart A s old new = (history : Option (Unkept (Step A))) × AppendsLegalPart A s history old new

-- what waited of a text and the line `end` were written, or a prefix of that, where the history stands; or nothing was
abbrev pub HasStoppedWriting : {A : Type 0} → Option (Unkept (Step A)) → SinkState → SinkState → Result (Waiting A) PrintFault → Type 0
HasStoppedWriting history old new (Ok waiting) =
    (new ≡ old) ⊎ (IsSome history × (printed : Result ⊤ PrintFault) × HasFinished old new (Ok waiting) printed)
HasStoppedWriting history old new (Err fault) = new ≡ old

-- what is left of the text of a run that answered so was written to its end, or a prefix of that, for a fault; of one that stopped, what
-- stands, and the fault is that of its text until then
abbrev pub HasFinishedRun : {T A : Type 0} → Result T (Halted A) → SinkState → SinkState → Result (Waiting A) PrintFault → Result ⊤ PrintFault → Type 0
HasFinishedRun (Ok done) old new waiting printed = HasFinished old new waiting printed
HasFinishedRun (Err halted) old new waiting printed =
    HasStoppedWriting halted.history old new waiting × MatchResult waiting (λ _. printed ≡ Ok tt) (λ why. printed ≡ Err why)

-- the fault of a serve whose text couldn't be written for this
abbrev pub of_print : PrintFault → ServeFault
of_print print.Write = Write
of_print print.NoMemory = Run NoMemory

-- the fault of a serve whose run stopped at this one, and whose text was written or couldn't be
abbrev pub fault_after : RunFault → Result ⊤ PrintFault → ServeFault
fault_after fault (Ok x) = Run fault
fault_after fault (Err why) = of_print why

-- a serve answers so whose run answered so, and whose text was written or couldn't be: what its run did, where the text is whole; what was
-- done knows a history and what is remembered
abbrev pub IsAnsweredBy : {D A : Type 0} → (D → Unkept (Step A)) → (D → Remembered A) → Result D (Halted A) → Result ⊤ PrintFault
    → Result D (ServeHalted A) → Type 0
IsAnsweredBy history ran (Ok done) (Ok x) answer = answer ≡ Ok done
IsAnsweredBy history ran (Ok done) (Err why) answer =
    IsErrAnd answer (λ after. (after.fault ≡ of_print why) × (after.history ≡ Some (history done)) × (after.ran ≡ Some (ran done)))
IsAnsweredBy history ran (Err halted) printed answer =
    IsErrAnd answer (λ after. (after.fault ≡ fault_after halted.fault printed)
    × (after.history ≡ halted.history) × (after.links ≡ halted.links) × (after.ran ≡ None))

-- what such a run answers, whose writers write at most so many packets at once, and what was written by then
pub record IsJournalled {A : Type 0} (batch : ℕ) (s : Config) (peers : List SocketAddr) (accept workers : ℕ) (old new : SinkState)
    (answer : Result (Account TcpReading TcpWriting A × Remembered A) (ServeHalted A)) : Type 0 where
  pub crew : OnOk answer (IsCrew workers)
  pub bad_workers : IfErr answer (λ halted. (halted.fault ≡ Run BadWorkers) ↔ (¬ IsCrew workers))
  pub fault : IfErr answer (λ halted. IsCrew workers → IsServeFault (length peers + accept) workers halted.fault old new)
  -- it is remembered, and the text of its history was written, whole; no write failed
  pub ran : IfOk answer (λ done. done.1 ≡ ran_of (report_of done.0))
  pub written : IfOk answer (λ done. AppendsServed A batch s peers accept workers done.1 old.written new.written)
  pub report : IfOk answer (λ done. Appends old.written new.written (history_text s done.0.history.items))
  pub unfailed : OnOk answer (NoWriteFailed old new)
  -- all of the headline holds of the report that its account tells, its links were met as the peers say, and the halves of each are over one socket
  pub holds : IfOk answer (λ done. Holds batch half_read half_written s (roles_of (length peers) (length peers + accept)) workers (report_of done.0))
  pub made : IfOk answer (λ done. AreMadeOf (λ half. half.origin) (λ half. half.origin) (origins_of peers (length peers + accept)) (report_of done.0))
  pub one_socket : IfOk answer (λ done. AreOfOne (λ half. half.socket) (λ half. half.socket) (report_of done.0))
  -- at a fault a prefix of the text of a history was written, which is legal whatever the fault
  pub part : IfErr answer (λ halted. AppendsLegalPart A s halted.history old.written new.written)
  pub full : IfErr answer (λ halted. halted.fault ≡ Run HistoryFull
      → IfSome halted.history (λ history. length history.items ≡ s.numbers.steps))
  -- the tallies of the links are those of that history
  pub tallied : IfErr answer (λ halted. IfSome halted.history (λ history. IfSome halted.links (λ tallies.
      AreTallies history.items (length peers + accept) tallies.items)))
  -- where the run itself has an account, that history is its
  pub remembered : IfErr answer (λ halted. IfSome halted.ran (λ _.
      AppendsServedPart A batch s peers accept workers halted.ran old.written new.written))
