-- How a sink stands to which a text is written without its first lines.
use Rattle.std.specs.Prelude.{◌≡◌, ◌++◌, ℕ, List}
use Rattle.std.specs.Io.KnownBytes.{Appends}
use Rattle.gn_io.specs.Streams.{SinkState}
use Rattle.gn_comments.specs.Sinks.{grown}

-- a sink that got a rest of this text, as it would stand with all of it
abbrev pub with_all : SinkState → SinkState → List ℕ → SinkState
with_all old new text = record { written = grown old.written text; failures = new.failures; stalls = new.stalls }

-- of this text the rest was written, behind what was left out
pub record HasWrittenRest (old new : SinkState) (text : List ℕ) : Type 0 where
  pub left : List ℕ
  pub rest : List ℕ
  pub all : text ≡ left ++ rest
  pub written : Appends old.written new.written rest
