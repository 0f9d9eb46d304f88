-- How a run leaves the sink of its history.
use Rattle.std.specs.Prelude.{◌≡◌, ℕ, Bool, false, true, List}
use Rattle.gn_comments.specs.Rests.{HasWrittenRest, with_all}
use Rattle.gn_io.specs.Streams.{SinkState}

-- how a router leaves a sink, and how it would stand with all of the history: of one that goes on with a history the first part was left out
abbrev pub IsWhole : Bool → SinkState → SinkState → SinkState → Type 0
IsWhole false old all new = all ≡ new
IsWhole true old all new = (text : List ℕ) × HasWrittenRest old new text × (all ≡ with_all old new text)
