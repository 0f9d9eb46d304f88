-- How a sink stands to which a text is written with comments.
use Rattle.std.specs.Prelude.{◌≡◌, ◌++◌, [], ℕ, Bool, false, not, List, take, Option, None, Some, option_map, Result, Ok, Err}
use Rattle.std.specs.Io.KnownBytes.{Appends}
use Rattle.gn_io.specs.declared.fault.IoFault.{IoFault}
use Rattle.gn_io.specs.Parts.{AppendsPart}
use Rattle.gn_io.specs.Streams.{HasWriteFailed, SinkState}
use Rattle.gn_comments.specs.Comments.{bare}
use Rattle.gn_comments.specs.Comments.Place.{start}

-- not all was written, though no write failed: one took none
abbrev pub has_stalled : Result Bool IoFault → Bool
has_stalled (Ok is_all) = not is_all
has_stalled (Err fault) = false

-- what a write took of a piece
abbrev pub taken_of : Result ℕ IoFault → List ℕ → List ℕ
taken_of (Ok count) piece = take count piece
taken_of (Err fault) piece = []

-- known bytes with these behind them
abbrev pub grown : Option (List ℕ) → List ℕ → Option (List ℕ)
grown known more = option_map (λ bytes. bytes ++ more) known

-- what is known where this was known at first
abbrev pub known_by : Option (List ℕ) → Option (List ℕ) → Option (List ℕ)
known_by None new = None
known_by (Some first) new = new

-- a sink that got this text with comments, as it would stand without them
abbrev pub without_comments : SinkState → SinkState → List ℕ → SinkState
without_comments old new text = record { written = grown old.written text; failures = new.failures; stalls = new.stalls }

-- a text was written that is this one but for its comments: whole where no write failed, else maybe a prefix of it
pub record HasWrittenBoth (old new : SinkState) (text : List ℕ) : Type 0 where
  pub both : List ℕ
  pub same : bare start both ≡ bare start text
  pub part : AppendsPart old.written new.written both
  pub whole : (HasWriteFailed old new → ⊥) → Appends old.written new.written both
