-- The fault lines: which one each fault is, and its text, with the line feed.
use Rattle.std.specs.Prelude.{ℕ, List, ◌++◌, codes, decimal}
use Rattle.gn_numbers.specs.Names.{cause_name}
use Rattle.gn_replay.specs.declared.fault.ReplayFault.{ReplayFault}
use Rattle.gn_replay.specs.declared.fault.ReplayFault.TheVariants as replay
use Rattle.gn_stage.specs.declared.settle.StageFault.TheVariants as stage
use Rattle.gn_start.specs.declared.fault.RunFault.{RunFault}
use Rattle.gn_start.specs.declared.fault.RunFault.TheVariants as run
use Rattle.gn_load.specs.declared.fault.LoadFault.{LoadFault}
use Rattle.gn_load.specs.declared.fault.LoadFault.TheVariants as load
use Rattle.gn_load.specs.declared.serve_fault.ServeFault.{ServeFault}
use Rattle.gn_load.specs.declared.serve_fault.ServeFault.TheVariants as serve
use Rattle.gn_program.specs.declared.fault.Fault.{Fault}
use Rattle.gn_program.specs.declared.fault.Fault.TheVariants.{Input, InputTooLarge, Line, Output, NoMemory, HistoryFull, Listen, Call, Link, StageMissing, Audit, Workers, NoRandomBytes}

-- the text of a fault
abbrev pub fault_text : Fault → List ℕ
fault_text Input = codes "fault: input failed\n"
fault_text InputTooLarge = codes "fault: input too large\n"
fault_text (Line fault) =
    codes "fault: line " ++ decimal fault.line ++ codes ": " ++ cause_name fault.cause ++ codes "\n"
fault_text Output = codes "fault: output failed\n"
fault_text NoMemory = codes "fault: no memory\n"
fault_text HistoryFull = codes "fault: history full\n"
fault_text Listen = codes "fault: listen\n"
fault_text (Call peer) = codes "fault: call " ++ decimal peer ++ codes "\n"
fault_text (Link link) = codes "fault: link " ++ decimal link ++ codes "\n"
fault_text StageMissing = codes "fault: stage missing\n"
fault_text (Audit actor) = codes "fault: audit " ++ decimal actor ++ codes "\n"
fault_text Workers = codes "fault: workers\n"
fault_text NoRandomBytes = codes "fault: no random bytes\n"

-- the line of a replay's or an audit's fault
abbrev pub of_replay : ReplayFault → Fault
of_replay replay.Read = Input
of_replay replay.TooLarge = InputTooLarge
of_replay (replay.Capture fault) = Line fault
of_replay replay.Write = Output
of_replay replay.NoMemory = NoMemory

-- the line of a run's fault
abbrev pub of_run : RunFault → Fault
of_run run.BadWorkers = Workers
of_run run.Listen = Listen
of_run (run.Call peer) = Call peer
of_run (run.Link link) = Link link
of_run run.HistoryFull = HistoryFull
of_run run.NoMemory = NoMemory
of_run (run.Stage stage.NoMemory) = NoMemory
of_run (run.Stage stage.Missing) = StageMissing
of_run (run.Audit actor) = Audit actor

-- the line of a load's fault
abbrev pub of_load : LoadFault → Fault
of_load (load.Text fault) = of_replay fault
of_load (load.Run fault) = of_run fault

-- the line of a serve's fault
abbrev pub of_serve : ServeFault → Fault
of_serve (serve.Run fault) = of_run fault
of_serve serve.Write = Output
