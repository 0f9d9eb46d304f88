-- What one line of a capture says.
use Rattle.std.specs.Prelude.{ℕ, Bool, false, ◌+◌, ◌==◌, ◌&&◌, nat_le, if◌then◌else◌, List, [], ◌∷◌, codes, Option, Some, None, Result, Ok, Err}
use Rattle.gn_rules.specs.Limits.{most_links}
use Rattle.gn_text.specs.Bytes.{bytes_parsed}
use Rattle.gn_text.specs.Lines.{is_word}
use Rattle.gn_numbers.specs.Names.{line_word_named}
use Rattle.gn_numbers.specs.Numbers.{number_of}
use Rattle.gn_numbers.specs.declared.causes.Cause.{Cause}
use Rattle.gn_numbers.specs.declared.causes.Cause.TheVariants as cause
use Rattle.gn_capture.specs.declared.line.Line.{Line}
use Rattle.gn_capture.specs.declared.line.Line.TheVariants.{Join, Greeted, Piece, Route, RouteAll, Take, Close, Originate, Stats}
use Rattle.gn_numbers.specs.declared.words.LineWord.{LineWord}
use Rattle.gn_numbers.specs.declared.words.LineWord.TheVariants as word
use Rattle.gn_text.specs.Faults.{◌>>=◌}
use Rattle.gn_capture.specs.Outcomes.{parsed}
use Rattle.gn_capture.specs.Requests.{ping_of, query_of}

-- a line that takes no fields
abbrev pub alone_of : {X : Type 0} → X → List (List ℕ) → Result X Cause
alone_of line [] = Ok line
alone_of line (field ∷ more) = Err cause.Fields

-- a line that makes a link, where so many were made before: at most 256 are
abbrev pub link_of : {X : Type 0} → X → ℕ → List (List ℕ) → Result X Cause
link_of line links [] = if links == most_links then Err cause.Link else Ok line
link_of line links (field ∷ more) = Err cause.Fields

-- the number of a line that takes one
abbrev pub number_alone : List (List ℕ) → Result ℕ Cause
number_alone (field ∷ []) = parsed (number_of field)
number_alone _ = Err cause.Fields

-- a piece of this link, which has to be made before
abbrev pub piece_of : {A : Type 0} → ℕ → ℕ → List ℕ → Result (Line A) Cause
piece_of links i hex = do
  bytes ← parsed (bytes_parsed hex)
  if nat_le 1 i && nat_le i links then Ok (Piece i bytes) else Err cause.Link

-- a piece of the link of this number
abbrev pub data_of : {A : Type 0} → ℕ → List (List ℕ) → Result (Line A) Cause
data_of links (link ∷ hex ∷ []) = do
  i ← parsed (number_of link)
  piece_of links i hex
data_of links _ = Err cause.Fields

-- what the fields after a word say
abbrev pub fields_say : {A : Type 0} → ℕ → List (List ℕ) → LineWord → Result (Line A) Cause
fields_say links fields word.Join = link_of Join links fields
fields_say links fields word.Open = link_of Greeted links fields
fields_say links fields word.Data = data_of links fields
fields_say links fields word.Route = do
  ticket ← number_alone fields
  Ok (Route ticket)
fields_say links fields word.Take = do
  connection ← number_alone fields
  Ok (Take connection)
fields_say links fields word.Close = do
  connection ← number_alone fields
  Ok (Close connection)
fields_say links fields word.Ping = do
  ping ← ping_of fields
  Ok (Originate ping)
fields_say links fields word.Query = do
  query ← query_of fields
  Ok (Originate query)
fields_say links fields word.Stats = alone_of Stats fields

-- a word that lines begin with; another is the cause
abbrev pub known : Option LineWord → Result LineWord Cause
known None = Err cause.Word
known (Some x) = Ok x

-- what the fields of a line say, where so many links were made before; or the first cause that they say nothing
abbrev pub line_of : {A : Type 0} → ℕ → List (List ℕ) → Result (Line A) Cause
line_of links [] = Err cause.Word
line_of links (first ∷ fields) = do
  begun ← known (line_word_named first)
  fields_say links fields begun

-- whether the fields are those of the line `route all`
abbrev pub is_route_all : List (List ℕ) → Bool
is_route_all (word ∷ which ∷ []) = is_word word (codes "route") && is_word which (codes "all")
is_route_all fields = false

-- what the fields of a line say in a version that has the line `route all`, or in one that hasn't
abbrev pub line_in : {A : Type 0} → Bool → ℕ → List (List ℕ) → Result (Line A) Cause
line_in has_all links fields = if has_all && is_route_all fields then Ok RouteAll else line_of links fields

-- how many links there are after a line
abbrev pub links_after : {A : Type 0} → ℕ → Line A → ℕ
links_after links Join = links + 1
links_after links Greeted = links + 1
links_after links line = links
