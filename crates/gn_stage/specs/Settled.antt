-- What a settled stage says.
use Rattle.std.specs.Prelude.{◌≡◌, ℕ, ◌-◌, ◌^◌, List, ◌++◌, length, min}
use Rattle.gn_stage.specs.Ends.{End, Layout, AreAllHome}
use Rattle.gn_stage.specs.Interleaving.{IsInterleaving}
use Rattle.gn_stage.specs.declared.settle.StageFault.{StageFault}
use Rattle.gn_stage.specs.declared.settle.StageFault.TheVariants.{Missing, NoMemory}

-- a count as a u64 holds it: the last u64 where it is greater
abbrev pub capped : ℕ → ℕ
capped n = min n (2 ^ 64 - 1)

-- each job was put as often as it was taken or drained: the queue got an interleaving of what the intakes put, of which
-- the outlets took a first part, interleaved, and the rest was drained
pub record IsSettled {J : Type 0} (intakes outlets : List (End J)) (put taken : ℕ) (drained : List J) : Type 0 where
  pub queued : List J
  pub passed : List J
  pub order : queued ≡ passed ++ drained
  pub puts : IsInterleaving queued intakes
  pub takes : IsInterleaving passed outlets
  pub put_count : put ≡ capped (length queued)
  pub taken_count : taken ≡ capped (length passed)

-- every end that was made for the stage is among these
pub record AreWhole {J : Type 0} (desk : Layout) (intakes outlets : List (End J)) : Type 0 where
  pub ins : AreAllHome desk.intakes intakes
  pub outs : AreAllHome desk.outlets outlets

-- when each fault comes
abbrev pub FaultComes : {J : Type 0} → StageFault → Layout → List (End J) → List (End J) → Type 0
FaultComes Missing desk intakes outlets = ¬ (AreWhole desk intakes outlets)
FaultComes NoMemory desk intakes outlets = AreWhole desk intakes outlets
