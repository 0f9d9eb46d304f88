-- What a replay comes to.
use Rattle.std.specs.Prelude.{◌≡◌, ◌≤◌, ◌⊎◌, ℕ, List, length, Option, IfSome}
use Rattle.std.specs.Io.KnownBytes.{Appends, Keeps}
use Rattle.gn_replay.specs.declared.fault.ReplayFault.{ReplayFault}
use Rattle.gn_replay.specs.declared.fault.ReplayFault.TheVariants.{Write, NoMemory}
use Rattle.gn_io.specs.Input.{input_limit}
use Rattle.gn_io.specs.Parts.{AppendsPart}
use Rattle.gn_replay.specs.declared.replays.Exit.{Exit}
use Rattle.gn_replay.specs.Events.{Played}
use Rattle.gn_replay.specs.Playing.{refused_more}
use Rattle.gn_replay.specs.ReplayText.{IsReplay, IsReplayText}

-- known bytes grew by the replay text of the input
abbrev pub AppendsReplay : (A : Type 0) → List ℕ → Option (List ℕ) → Option (List ℕ) → Type 0
AppendsReplay A input old new = (text : List ℕ) × IsReplayText A input text × Appends old new text

-- known bytes grew by a prefix of the replay text of the input
abbrev pub AppendsReplayPart : (A : Type 0) → List ℕ → Option (List ℕ) → Option (List ℕ) → Type 0
AppendsReplayPart A input old new = (text : List ℕ) × IsReplayText A input text × AppendsPart old new text

-- the steps of what replay does with the input are counted, and the events that it refuses, up to the last u64
abbrev pub IsCounted : (A : Type 0) → List ℕ → Exit → Type 0
IsCounted A input exit =
    (played : Played A) × IsReplay A input played × (exit.steps ≡ length played.past)
    × (exit.refusals ≡ refused_more played.refusals 0)

-- what was written where a replay stopped: at Write a prefix of the replay text, at NoMemory nothing or that of an
-- input within the limit, at any other fault nothing
abbrev pub HasStopped : (A : Type 0) → ReplayFault → Option (List ℕ) → Option (List ℕ) → Option (List ℕ) → Type 0
HasStopped A Write rest old new = IfSome rest (λ input. AppendsReplayPart A input old new)
HasStopped A NoMemory rest old new =
    IfSome rest (λ input. Keeps old new ⊎ ((length input ≤ input_limit) × AppendsReplayPart A input old new))
HasStopped A fault rest old new = Keeps old new
