-- The names of closed sets: what each value is called, and which value a field names.
use Rattle.std.specs.Prelude.{◌≡◌, ℕ, Bool, true, false, nat_eq, if◌then◌else◌, List, [], ◌∷◌, codes, map, Option, Some, None}
use lib.Pointwise.{pointwise}
use Rattle.gn_wire.specs.declared.kind.Kind.{Kind}
use Rattle.gn_wire.specs.declared.kind.Kind.TheVariants as kind
use Rattle.gn_rules.specs.declared.event.Event.{Event}
use Rattle.gn_rules.specs.declared.event.Event.TheVariants as event
use Rattle.gn_rules.specs.declared.refusal.Refusal.{Refusal}
use Rattle.gn_rules.specs.declared.refusal.Refusal.TheVariants as refusal
use Rattle.gn_rules.specs.declared.reply.DropReason.{DropReason}
use Rattle.gn_rules.specs.declared.statistics.Counter.{Counter}
use Rattle.gn_rules.specs.declared.statistics.Counter.TheVariants as counter
use Rattle.gn_rules.specs.Plain.{reason_of}
use Rattle.gn_rules.specs.Statistics.{counters, drop_counter}
use Rattle.gn_numbers.specs.Numbers.{◌>>=◌}
use Rattle.gn_numbers.specs.declared.causes.Cause.{Cause}
use Rattle.gn_numbers.specs.declared.causes.Cause.TheVariants as cause
use Rattle.gn_numbers.specs.declared.events.EventWord.{EventWord}
use Rattle.gn_numbers.specs.declared.events.EventWord.TheVariants as word
use Rattle.gn_numbers.specs.declared.titles.Text.{Text}
use Rattle.gn_numbers.specs.declared.titles.Text.TheVariants.{Capture, History}
use Rattle.gn_numbers.specs.declared.version.Version.{Version}
use Rattle.gn_numbers.specs.declared.version.Version.TheVariants.{First, Second, Third}
use Rattle.gn_numbers.specs.declared.words.LineWord.{LineWord}
use Rattle.gn_numbers.specs.declared.words.LineWord.TheVariants as line

-- the value of the first row whose name this field is; none, where it is no row's
abbrev pub named : {T : Type 0} → List (List ℕ × T) → List ℕ → Option T
named [] field = None
named (row ∷ rows) field = if pointwise nat_eq field row.0 then Some row.1 else named rows field

-- rows of values, each behind its name
abbrev pub with_names : {T : Type 0} → (T → List ℕ) → List T → List (List ℕ × T)
with_names name values = map (λ x. (name x, x)) values

-- ---- counters, which name replies and reasons to drop, too

-- the name of a counter
abbrev pub counter_name : Counter → List ℕ
counter_name counter.Connected = codes "connected"
counter_name counter.TooMany = codes "toomany"
counter_name counter.Closed = codes "closed"
counter_name counter.Admitted = codes "admitted"
counter_name counter.Busy = codes "busy"
counter_name counter.Crowded = codes "crowded"
counter_name counter.Routed = codes "routed"
counter_name counter.UnknownKind = codes "unknownkind"
counter_name counter.Malformed = codes "malformed"
counter_name counter.Duplicate = codes "duplicate"
counter_name counter.NoRoute = codes "noroute"
counter_name counter.RouteGone = codes "routegone"
counter_name counter.BackToSender = codes "backtosender"
counter_name counter.Expired = codes "expired"
counter_name counter.Taken = codes "taken"
counter_name counter.Sent = codes "sent"

-- the counter that a field names
abbrev pub counter_named : List ℕ → Option Counter
counter_named field = named (with_names counter_name counters) field

-- the name of a reason to drop: that of its counter
abbrev pub reason_name : DropReason → List ℕ
reason_name why = counter_name (drop_counter why)

-- the reason to drop that a field names
abbrev pub reason_named : List ℕ → Option DropReason
reason_named field = counter_named field >>= reason_of

-- ---- events

-- the word of an event
abbrev pub word_of : {A : Type 0} → Event A → EventWord
word_of event.Connect = word.Connect
word_of (event.Close c) = word.Close
word_of (event.Admit c d) = word.Admit
word_of (event.Route t) = word.Route
word_of (event.Take c) = word.Take
word_of (event.Originate d) = word.Originate

-- the name of an event of this word
abbrev pub event_name : EventWord → List ℕ
event_name word.Connect = codes "connect"
event_name word.Close = codes "close"
event_name word.Admit = codes "admit"
event_name word.Route = codes "route"
event_name word.Take = codes "take"
event_name word.Originate = codes "originate"

-- the word that a field is
abbrev pub event_named : List ℕ → Option EventWord
event_named field =
    named (with_names event_name (word.Connect ∷ word.Close ∷ word.Admit ∷ word.Route ∷ word.Take ∷ word.Originate ∷ [])) field

-- ---- kinds

-- what a kind is called: in lines of faults, in JSON and rows, and in plain words
pub record KindNames : Type 0 where
  pub word : List ℕ
  pub json : List ℕ
  pub title : List ℕ

-- the names of a kind, in the order of the record
abbrev pub three : List ℕ → List ℕ → List ℕ → KindNames
three word json title = record { word = word; json = json; title = title }

-- the names of a kind; in plain words the code of one that version 0.4 doesn't name stands behind its title
abbrev pub kind_names : Kind → KindNames
kind_names kind.Ping = three (codes "ping") (codes "ping") (codes "Ping")
kind_names kind.Pong = three (codes "pong") (codes "pong") (codes "Pong")
kind_names kind.Push = three (codes "push") (codes "push") (codes "Push")
kind_names kind.Query = three (codes "query") (codes "query") (codes "Query")
kind_names kind.QueryHit = three (codes "queryhit") (codes "query_hit") (codes "Query Hit")
kind_names (kind.Unknown code) = three (codes "unknown") (codes "unknown") (codes "kind")

-- ---- words that lines of a capture begin with

-- the name of a word
abbrev pub line_word_name : LineWord → List ℕ
line_word_name line.Join = codes "join"
line_word_name line.Open = codes "open"
line_word_name line.Data = codes "data"
line_word_name line.Route = codes "route"
line_word_name line.Take = codes "take"
line_word_name line.Close = codes "close"
line_word_name line.Ping = codes "ping"
line_word_name line.Query = codes "query"
line_word_name line.Stats = codes "stats"

-- the word that a field is
abbrev pub line_word_named : List ℕ → Option LineWord
line_word_named field =
    named (with_names line_word_name (line.Take ∷ line.Data ∷ line.Route ∷ line.Join ∷ line.Open ∷ line.Close ∷ line.Ping
    ∷ line.Query ∷ line.Stats ∷ [])) field

-- ---- places

-- the name of a place: whether a routed descriptor goes to the local servent, too
abbrev pub place_name : Bool → List ℕ
place_name true = codes "local"
place_name false = codes "away"

-- whether the local servent gets it, by the name of the place
abbrev pub place_named : List ℕ → Option Bool
place_named field = named (with_names place_name (true ∷ false ∷ [])) field

-- ---- titles, one for each version of a text

-- the first line of a text
abbrev pub title_of : Text → Version → List ℕ
title_of Capture First = codes "gnutella-capture 1"
title_of Capture Second = codes "gnutella-capture 2"
title_of Capture Third = codes "gnutella-capture 3"
title_of History First = codes "gnutella-history 1"
title_of History Second = codes "gnutella-history 2"
title_of History Third = codes "gnutella-history 3"

-- the version whose title this line is
abbrev pub version_of : Text → List ℕ → Option Version
version_of text line = named (with_names (title_of text) (First ∷ Second ∷ Third ∷ [])) line

-- ---- refusals

-- the name of a refusal
abbrev pub refusal_name : Refusal → List ℕ
refusal_name refusal.HistoryFull = codes "HistoryFull"
refusal_name refusal.NotLive = codes "NotLive"
refusal_name refusal.NoTicket = codes "NoTicket"
refusal_name refusal.Strange = codes "Strange"
refusal_name refusal.NothingWaiting = codes "NothingWaiting"
refusal_name refusal.BadOrigin = codes "BadOrigin"
refusal_name refusal.Remembered = codes "Remembered"
refusal_name refusal.NoMemory = codes "NoMemory"

-- ---- causes

-- the name of a cause: what is wrong with a line
abbrev pub cause_name : Cause → List ℕ
cause_name cause.Header = codes "header"
cause_name cause.Config = codes "config"
cause_name cause.Own = codes "own"
cause_name cause.Word = codes "word"
cause_name cause.Fields = codes "fields"
cause_name cause.Field = codes "field"
cause_name cause.Link = codes "link"
cause_name cause.Load = codes "load"
cause_name cause.End = codes "end"

-- ---- the law

-- each name is read as what it names: so names of a set differ
abbrev pub AreRead : {T : Type 0} → (T → List ℕ) → (List ℕ → Option T) → Type 0
AreRead {T = T} name read = (x : T) → read (name x) ≡ Some x

-- so it is of each set whose names are read
pub record NamesAreRead : Type 0 where
  pub counters : AreRead counter_name counter_named
  pub reasons : AreRead reason_name reason_named
  pub events : AreRead event_name event_named
  pub line_words : AreRead line_word_name line_word_named
  pub places : AreRead place_name place_named
  pub titles : (text : Text) → AreRead (title_of text) (version_of text)
