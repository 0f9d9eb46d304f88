-- What a scribe has written of the steps that it took.
use Rattle.std.specs.Prelude.{◌≡◌, ◌≢◌, ◌↔◌, ◌<◌, ⊤, ℕ, true, List, [], ◌++◌, length, Result, Ok, Err}
use Rattle.rtrb.specs.Ring.{SameConsumer, received}
use Rattle.gn_rules.specs.declared.receipt.Step.{Step}
use Rattle.gn_capture.specs.Histories.{steps_text}
use Rattle.gn_io.specs.Parts.{AppendsPart, LeavesToWrite, block_size}
use Rattle.gn_io.specs.Streams.{NoWriteFailed, SinkState}
use Rattle.gn_printed.specs.declared.ending.Waiting.{Waiting}
use Rattle.gn_printed.specs.declared.printed.PrintFault.{PrintFault}
use Rattle.gn_scribe.specs.declared.scribe.Scribe.{Scribe}
use Rattle.gn_printed.specs.Printed.{IsPrintFault}

-- a scribe knows whether it took a step
abbrev pub KnowsBegun : {A : Type 0} → Scribe A → Type 0
KnowsBegun scribe = (scribe.is_begun ≡ true) ↔ (received scribe.steps ≢ [])

-- some steps were taken out of the ring, and of what waited with their lines all was written but what waits now, less than a block
-- where that was so before; no write failed
pub record HasWritten {A : Type 0} (before after : Scribe A) (old new : SinkState) : Type 0 where
  pub same : SameConsumer before.steps after.steps
  pub steps : List (Step A)
  pub taken : received after.steps ≡ received before.steps ++ steps
  pub left : LeavesToWrite old.written new.written after.block (before.block ++ steps_text steps)
  pub small : length before.block < block_size → length after.block < block_size
  pub unfailed : NoWriteFailed old new
  pub begun : KnowsBegun before → KnowsBegun after

-- some steps were taken, and of what waited with their lines only a prefix was written
pub record HasBroken {A : Type 0} (before after : Scribe A) (old new : SinkState) : Type 0 where
  pub same : SameConsumer before.steps after.steps
  pub steps : List (Step A)
  pub taken : received after.steps ≡ received before.steps ++ steps
  pub part : AppendsPart old.written new.written (before.block ++ steps_text steps)

-- of these steps, of which a scribe had taken some, it took all others, and of what waited with their lines all was written but what
-- waits now; and it is known whether there is a step
pub record HasWrittenAll {A : Type 0} (scribe : Scribe A) (steps : List (Step A)) (old new : SinkState) (waiting : Waiting A) : Type 0 where
  pub more : List (Step A)
  pub all : steps ≡ received scribe.steps ++ more
  pub left : LeavesToWrite old.written new.written waiting.block (scribe.block ++ steps_text more)
  pub small : length scribe.block < block_size → length waiting.block < block_size
  pub unfailed : NoWriteFailed old new
  pub begun : KnowsBegun scribe → (waiting.is_begun ≡ true) ↔ (steps ≢ [])

-- of what waited with the lines of the others only a prefix was written
pub record HasBrokenOff {A : Type 0} (scribe : Scribe A) (steps : List (Step A)) (old new : SinkState) (fault : PrintFault) : Type 0 where
  pub more : List (Step A)
  pub all : steps ≡ received scribe.steps ++ more
  pub part : AppendsPart old.written new.written (scribe.block ++ steps_text more)
  pub cause : IsPrintFault fault old new

-- nothing was written any more, for this fault
pub record HasStayed {A : Type 0} (scribe : Scribe A) (steps : List (Step A)) (old new : SinkState) (first fault : PrintFault) : Type 0 where
  pub more : List (Step A)
  pub all : steps ≡ received scribe.steps ++ more
  pub same : new ≡ old
  pub reason : fault ≡ first

-- a scribe that could write all so far, or couldn't for a fault, ended: it took all of these steps and wrote them, but what waits then; or
-- it could not; or it did nothing more
abbrev pub HasEnded : {A : Type 0} → Scribe A → List (Step A) → SinkState → SinkState → Result ⊤ PrintFault → Result (Waiting A) PrintFault → Type 0
HasEnded scribe steps old new (Ok x) (Ok waiting) = HasWrittenAll scribe steps old new waiting
HasEnded scribe steps old new (Ok x) (Err fault) = HasBrokenOff scribe steps old new fault
HasEnded scribe steps old new (Err first) (Ok waiting) = ⊥
HasEnded scribe steps old new (Err first) (Err fault) = HasStayed scribe steps old new first fault

-- one that began with these bytes and before any step, took steps while they came, and ended: of the text of all steps behind those bytes
-- all was written but what waits, less than a block where those bytes are; or a prefix, at a fault
abbrev pub HasJournalled : {A : Type 0} → List ℕ → List (Step A) → SinkState → SinkState → Result (Waiting A) PrintFault → Type 0
HasJournalled heading steps old new (Ok waiting) =
    LeavesToWrite old.written new.written waiting.block (heading ++ steps_text steps)
    × (length heading < block_size → length waiting.block < block_size)
    × NoWriteFailed old new
HasJournalled heading steps old new (Err fault) = AppendsPart old.written new.written (heading ++ steps_text steps) × IsPrintFault fault old new

-- it took steps while they came, and wrote their lines, or couldn't
abbrev pub HasFollowed : {A : Type 0} → Scribe A → Scribe A → SinkState → SinkState → Result ⊤ PrintFault → Type 0
HasFollowed before after old new (Ok x) = HasWritten before after old new
HasFollowed before after old new (Err fault) = HasBroken before after old new × IsPrintFault fault old new
