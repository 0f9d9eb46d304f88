-- A load whose history is written while its run goes on.
use Rattle.std.specs.Prelude.{◌≡◌, ◌⊎◌, ℕ, ⊤, List, length, IfErr, IfSome, OnOk, Option, Result, Ok, Err}
use Rattle.std.specs.Result.{IsOkAnd}
use Rattle.std.specs.declared.alloc.Global.{Global}
use Rattle.std.specs.Io.KnownBytes.{Keeps}
use Rattle.gn_rules.specs.declared.config.Config.{Config}
use Rattle.gn_rules.specs.declared.receipt.Step.{Step}
use Rattle.gn_report.specs.declared.unkept.Unkept.{Unkept}
use Rattle.gn_links.specs.Memory.{Memory}
use Rattle.gn_io.specs.Streams.{HasWriteFailed, NoWriteFailed, SinkState}
use Rattle.gn_replay.specs.declared.fault.ReplayFault.TheVariants as replay
use Rattle.gn_printed.specs.declared.printed.PrintFault.{PrintFault}
use Rattle.gn_printed.specs.declared.printed.PrintFault.TheVariants as print
use Rattle.gn_text.specs.Settings.{settings_of}
use Rattle.gn_start.specs.declared.fault.RunFault.{RunFault}
use Rattle.gn_threads.specs.declared.halted.Halted.{Halted}
use Rattle.gn_start.specs.declared.fault.RunFault.TheVariants.{BadWorkers, HistoryFull}
use Rattle.gn_load.specs.declared.fault.LoadFault.{LoadFault}
use Rattle.gn_load.specs.declared.fault.LoadFault.TheVariants.{Run, Text}
use Rattle.gn_load.specs.Faults.{IsRunFault}
use Rattle.gn_load.specs.Journalled.{AppendsLegalPart, AppendsSomeLegalPart}
use Rattle.gn_load.specs.Loads.{AppendsLoad, load_of}

-- the fault of a load whose text couldn't be written for this
abbrev pub of_print : PrintFault → LoadFault
of_print print.Write = Text replay.Write
of_print print.NoMemory = Text replay.NoMemory

-- a load answers so whose run answered so, and whose text was written, or couldn't be for this
abbrev pub IsLoadedBy : {T : Type 0} → Result T (Halted Global) → Result ⊤ PrintFault → Result ⊤ LoadFault → Type 0
IsLoadedBy (Ok done) (Ok x) answer = answer ≡ Ok tt
IsLoadedBy (Err halted) (Ok x) answer = answer ≡ Err (Run halted.fault)
IsLoadedBy run (Err why) answer = answer ≡ Err (of_print why)

-- known bytes grew by a prefix of the text of a history that is legal by this configuration, and has as many steps as that allows where
-- this fault is a full history and the history stands; by nothing where no run began
abbrev pub AppendsStopped : RunFault → Config → Option (List ℕ) → Option (List ℕ) → Type 0
AppendsStopped BadWorkers s old new = Keeps old new
AppendsStopped fault s old new =
    (history : Option (Unkept (Step Global))) × AppendsLegalPart Global s history old new
    × (fault ≡ HistoryFull → IfSome history (λ steps. length steps.items ≡ s.numbers.steps))

-- what was written where a load of this configuration stopped: a prefix of the text of a legal history, at a fault of the run of one
-- that fits that fault, and at none of these nothing
abbrev pub HasStoppedOf : LoadFault → Config → Option (List ℕ) → Option (List ℕ) → Type 0
HasStoppedOf (Text replay.Write) s old new = AppendsSomeLegalPart Global s old new
HasStoppedOf (Text replay.NoMemory) s old new = AppendsSomeLegalPart Global s old new
HasStoppedOf (Text fault) s old new = Keeps old new
HasStoppedOf (Run fault) s old new = AppendsStopped fault s old new

-- the same by the configuration of what is left of an input, which a load can read
abbrev pub HasStoppedIn : LoadFault → Option (List ℕ) → Option (List ℕ) → Option (List ℕ) → Type 0
HasStoppedIn fault rest old new = IfSome rest (λ input. IsOkAnd (load_of Global input) (λ loaded.
    (s : Config) × (loaded.0 ≡ settings_of s) × HasStoppedOf fault s old new))

-- what was written where a load stopped: so much at a fault of the run and at Write; where memory ran out, nothing or so much; at any
-- other fault nothing
abbrev pub HasStoppedAt : LoadFault → Option (List ℕ) → Option (List ℕ) → Option (List ℕ) → Type 0
HasStoppedAt (Text replay.Write) rest old new = HasStoppedIn (Text replay.Write) rest old new
HasStoppedAt (Text replay.NoMemory) rest old new = Keeps old new ⊎ HasStoppedIn (Text replay.NoMemory) rest old new
HasStoppedAt (Text fault) rest old new = Keeps old new
HasStoppedAt (Run fault) rest old new = HasStoppedIn (Run fault) rest old new

-- why a load stops whose input was read as so many links
abbrev pub IsFaultAfter : ℕ → ℕ → LoadFault → SinkState → SinkState → Type 0
IsFaultAfter links workers (Text replay.Write) old new = HasWriteFailed old new
IsFaultAfter links workers (Text replay.NoMemory) old new = ⊤
IsFaultAfter links workers (Text fault) old new = ⊥
IsFaultAfter links workers (Run fault) old new = IsRunFault links workers fault

-- what a load answers whose input was read as this configuration and these links, and whose writers write at most so many packets at
-- once, and what was written by then
pub record IsJournalledLoad (batch : ℕ) (s : Config) (links : List Memory) (workers : ℕ) (old new : SinkState) (answer : Result ⊤ LoadFault) : Type 0 where
  pub written : OnOk answer ((input : List ℕ) → load_of Global input ≡ Ok (settings_of s, links)
      → AppendsLoad Global batch workers input old.written new.written)
  pub unfailed : OnOk answer (NoWriteFailed old new)
  pub stopped : IfErr answer (λ fault. HasStoppedOf fault s old.written new.written)
  pub fault : IfErr answer (λ fault. IsFaultAfter (length links) workers fault old new)
