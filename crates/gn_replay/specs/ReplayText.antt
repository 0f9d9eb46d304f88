-- The replay text of a capture: what its lines print, one after the other.
use Rattle.std.specs.Prelude.{◌≡◌, ℕ, zero, suc, List, [], ◌∷◌, ◌++◌, Result, Ok, Err, slice_set}
use Rattle.std.specs.List.{slice_index_or}
use Rattle.gn_rules.specs.declared.config.Config.{Config}
use Rattle.gn_rules.specs.declared.event.Event.TheVariants.{Close, Route, Take, Originate}
use Rattle.gn_rules.specs.declared.receipt.Step.{Step}
use Rattle.gn_rules.specs.Statistics.{stats_of}
use Rattle.gn_text.specs.Statistics.{stats_text}
use Rattle.gn_text.specs.declared.fault.CaptureFault.{CaptureFault}
use Rattle.gn_text.specs.Settings.{settings_of}
use Rattle.gn_capture.specs.declared.line.Line.{Line}
use Rattle.gn_capture.specs.declared.line.Line.TheVariants as line
use Rattle.gn_capture.specs.Captures.{Parsed, capture_of}
use Rattle.gn_replay.specs.Events.{Played, nothing, prints, followed, happens}
use Rattle.gn_replay.specs.Links.{LinkState, ended}
use Rattle.gn_replay.specs.Pieces.{Linked, awaits, joins, feeds_link}
use Rattle.gn_replay.specs.Routes.{routes_all}

-- what a line did, and the links after it
pub record After (A : Type 0) : Type 0 where
  pub played : Played A
  pub links : List LinkState

-- an event; the links stay
abbrev pub event_plays : {A : Type 0} → List LinkState → Played A → After A
event_plays links played = record { played = played; links = links }

-- a new link, after the others
abbrev pub link_added : {A : Type 0} → List LinkState → Linked A → After A
link_added links new = record { played = new.played; links = links ++ new.state ∷ [] }

-- link i, counted from 1; a link that isn't there counts as ended
abbrev pub state_of : List LinkState → ℕ → LinkState
state_of links zero = ended
state_of links (suc at) = slice_index_or links at ended

-- the links where link i has this state; a link that isn't there isn't made
abbrev pub with_state : List LinkState → ℕ → LinkState → List LinkState
with_state links zero state = links
with_state links (suc at) state = slice_set links at state

-- link i was given a piece
abbrev pub link_given : {A : Type 0} → List LinkState → ℕ → Linked A → After A
link_given links i given = record { played = given.played; links = with_state links i given.state }

-- a piece of link i
abbrev pub piece_plays : {A : Type 0} → Config → List (Step A) → List LinkState → ℕ → List ℕ → After A
piece_plays s past links i bytes = link_given links i (feeds_link s past i bytes (state_of links i))

-- what one line of a capture does, after these steps and with these links
abbrev pub plays : {A : Type 0} → Config → List (Step A) → List LinkState → Line A → After A
plays s past links line.Join = link_added links (joins s past)
plays s past links line.Greeted = link_added links (awaits past)
plays s past links (line.Piece i bytes) = piece_plays s past links i bytes
plays s past links (line.Route t) = event_plays links (happens s past (Route t))
plays s past links line.RouteAll = event_plays links (routes_all s past)
plays s past links (line.Take c) = event_plays links (happens s past (Take c))
plays s past links (line.Close c) = event_plays links (happens s past (Close c))
plays s past links (line.Originate d) = event_plays links (happens s past (Originate d))
plays s past links line.Stats = event_plays links (prints past (stats_text (stats_of past)))

-- what the lines do, from these steps and links on
abbrev pub play_lines : {A : Type 0} → Config → List (Step A) → List LinkState → List (ℕ × Line A) → Played A
play_lines s past links [] = nothing past
play_lines s past links ((n, line) ∷ more) =
    let here = plays s past links line in followed here.played (play_lines s here.played.past here.links more)

-- what the lines of a capture do, from the first event on
abbrev pub capture_plays : {A : Type 0} → Config → List (ℕ × Line A) → Played A
capture_plays s lines = play_lines s [] [] lines

-- what replay does with what was read of its input: nothing where that is no capture, else what its lines do on a
-- router of the configuration that it states
abbrev pub IsReplayOf : (A : Type 0) → Result (Parsed A) CaptureFault → Played A → Type 0
IsReplayOf A (Err fault) played = played ≡ nothing []
IsReplayOf A (Ok parsed) played =
    (s : Config) × (settings_of s ≡ (parsed.numbers, parsed.own)) × (played ≡ capture_plays s parsed.lines)

-- what replay does with an input
abbrev pub IsReplay : (A : Type 0) → List ℕ → Played A → Type 0
IsReplay A input played = IsReplayOf A (capture_of {A = A} input) played

-- the replay text of an input
abbrev pub IsReplayText : (A : Type 0) → List ℕ → List ℕ → Type 0
IsReplayText A input text = (played : Played A) × IsReplay A input played × (text ≡ played.text)

-- an input has exactly one replay text: there is one, and no two differ; and what replay does with it is one thing
pub record ReplayTextIsOne (A : Type 0) : Type 0 where
  pub there_is : (input : List ℕ) → (text : List ℕ) × IsReplayText A input text
  pub no_two : (input one other : List ℕ) → IsReplayText A input one → IsReplayText A input other → one ≡ other
  pub one_play : (input : List ℕ) (one other : Played A) → IsReplay A input one → IsReplay A input other → one ≡ other
