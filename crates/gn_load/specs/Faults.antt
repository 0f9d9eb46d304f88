-- When a load may stop.
use Rattle.std.specs.Prelude.{◌≡◌, ◌↔◌, ℕ, List, length, IsOkAnd, Result, Err}
use Rattle.gn_io.specs.Streams.{Streams}
use Rattle.gn_rules.specs.Limits.{IsCrew}
use Rattle.gn_text.specs.declared.fault.CaptureFault.{CaptureFault}
use Rattle.gn_start.specs.declared.fault.RunFault.{RunFault}
use Rattle.gn_start.specs.declared.fault.RunFault.TheVariants.{BadWorkers}
use Rattle.gn_start.specs.Faults.{IsFaultOf}
use Rattle.gn_replay.specs.declared.fault.ReplayFault.TheVariants.{Capture, NoMemory}
use Rattle.gn_replay.specs.Faults.{IsInputThat, IsReplayFault}
use Rattle.gn_load.specs.declared.fault.LoadFault.{LoadFault}
use Rattle.gn_load.specs.declared.fault.LoadFault.TheVariants.{Run, Text}

-- when a run of so many links and workers has this fault: BadWorkers comes exactly out of 1 to 64 workers; any other names only a
-- link or an actor of the run
pub record IsRunFault (links workers : ℕ) (fault : RunFault) : Type 0 where
  pub bad : (fault ≡ BadWorkers) ↔ (¬ IsCrew workers)
  pub other : IsCrew workers → IsFaultOf links workers fault

-- when a text has no history. `read` is what a load reads of it: Capture names its very fault, a run has a fault only where
-- there is none; memory may run out at any time
abbrev pub IsRunLoadFault : {X L : Type 0} → ℕ → LoadFault → Result (X × List L) CaptureFault → Type 0
IsRunLoadFault workers (Text (Capture fault)) read = read ≡ Err fault
IsRunLoadFault workers (Text NoMemory) read = Unit {0}
IsRunLoadFault workers (Text fault) read = ⊥
IsRunLoadFault workers (Run fault) read = IsOkAnd read (λ loaded. IsRunFault (length loaded.1) workers fault)

-- when each fault of a load comes, where `read` is what a load reads of a text: the faults of the text come as those of a replay
-- do; a run has a fault only where the input has none
abbrev pub IsLoadFault : {X L : Type 0} → ℕ → LoadFault → (List ℕ → Result (X × List L) CaptureFault) → Streams → Type 0
IsLoadFault workers (Text fault) read s = IsReplayFault fault read s
IsLoadFault workers (Run fault) read s =
    IsInputThat s (λ text. IsOkAnd (read text) (λ loaded. IsRunFault (length loaded.1) workers fault))
