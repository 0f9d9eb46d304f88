-- Sources and sinks as they stand, and what calls do to them.
use Rattle.std.specs.Prelude.{◌≡◌, ◌⊎◌, ℕ, List, Option, None, Some, drop, length}
use Rattle.gn_io.specs.Counts.{Rises}

-- a source: the bytes that it will still give, where they are known, those that it gave, how many reads failed, and how many
-- bytes it gave
pub record SourceState : Type 0 where
  pub rest : Option (List ℕ)
  pub told : List ℕ
  pub failures : ℕ
  pub given : ℕ

-- a sink: the bytes that were written, where they are known, how many writes failed, and how many took none of a piece
-- that isn't empty
pub record SinkState : Type 0 where
  pub written : Option (List ℕ)
  pub failures : ℕ
  pub stalls : ℕ

-- what a source will give, where that is known beforehand; else what it gave
abbrev pub foreknown_or_told : Option (List ℕ) → List ℕ → Option (List ℕ)
foreknown_or_told None told = Some told
foreknown_or_told (Some all) told = Some all

-- the text of an input that was read between these: all that its source would give, where that was known beforehand; else what it gave
abbrev pub text_between : SourceState → SourceState → Option (List ℕ)
text_between old new = foreknown_or_told old.rest (drop (length old.told) new.told)

-- what a writer holds, where it said so from the first; else what it took
abbrev pub held_or_told : Option (List ℕ) → Option (List ℕ) → List ℕ → Option (List ℕ)
held_or_told None held told = Some told
held_or_told (Some first) held told = held

-- no read failed
abbrev pub NoReadFailed : SourceState → SourceState → Type 0
NoReadFailed old new = new.failures ≡ old.failures

-- the count of failures says that a read failed
abbrev pub HasReadFailed : SourceState → SourceState → Type 0
HasReadFailed old new = Rises old.failures new.failures

-- no write failed, and none took nothing
abbrev pub NoWriteFailed : SinkState → SinkState → Type 0
NoWriteFailed old new = (new.failures ≡ old.failures) × (new.stalls ≡ old.stalls)

-- the counts say that a write failed, or took nothing
abbrev pub HasWriteFailed : SinkState → SinkState → Type 0
HasWriteFailed old new = Rises old.failures new.failures ⊎ Rises old.stalls new.stalls

-- a source and a sink, before a call and after it
pub record Streams : Type 0 where
  pub source : SourceState
  pub source_new : SourceState
  pub sink : SinkState
  pub sink_new : SinkState

-- these, as one
abbrev pub streams : SourceState → SourceState → SinkState → SinkState → Streams
streams source source_new sink sink_new =
    record { source = source; source_new = source_new; sink = sink; sink_new = sink_new }

-- the text of the input
abbrev pub text_of : Streams → Option (List ℕ)
text_of s = text_between s.source s.source_new

-- no read failed, no write failed, and no write took nothing
abbrev pub NoneFailed : Streams → Type 0
NoneFailed s = NoReadFailed s.source s.source_new × NoWriteFailed s.sink s.sink_new
