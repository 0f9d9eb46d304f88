-- The lines of the steps that a replay makes are those of its router's history.
use Rattle.std.proofs.Common.{◌≡◌, ◌∙◌, ℕ, true, false, if◌then◌else◌, List, [], ◌∷◌, ◌++◌, drop, length, reverse, Option, Some, None, Result, Ok, Err, append-nil, append_assoc, ap, sym}
use Rattle.std.proofs.lemmas.Grind.{flat_map-append}
use Rattle.std.proofs.lemmas.List.{reverse-append}
use Rattle.gn_wire.specs.Packet.{Packet}
use Rattle.gn_wire.specs.declared.header.FrameFault.{FrameFault}
use Rattle.gn_shake.specs.declared.shake.ShakeState.{ShakeState}
use Rattle.gn_shake.specs.declared.shake.ShakeState.TheVariants.{More, Done, Refused}
use Rattle.gn_shake.specs.Greeting.{greeting_state, request_text}
use Rattle.gn_frames.specs.Frames.{frames_of}
use Rattle.gn_rules.specs.declared.config.Config.{Config}
use Rattle.gn_rules.specs.declared.event.Event.{Event}
use Rattle.gn_rules.specs.declared.event.Event.TheVariants.{Connect, Close, Admit, Route, Take, Originate}
use Rattle.gn_rules.specs.declared.receipt.Step.{Step}
use Rattle.gn_rules.specs.declared.refusal.Refusal.{Refusal}
use Rattle.gn_rules.specs.declared.reply.Reply.{Reply}
use Rattle.gn_rules.specs.Answer.{answer}
use Rattle.gn_rules.specs.Flight.{flying}
use Rattle.gn_text.specs.Links.{frame_fault_text}
use Rattle.gn_text.specs.Steps.{step_text}
use Rattle.gn_capture.specs.Histories.{steps_text}
use Rattle.gn_capture.specs.declared.line.Line.{Line}
use Rattle.gn_capture.specs.declared.line.Line.TheVariants as line
use Rattle.gn_replay.specs.Events.{Played, answered, connection_of, followed, happens, is_not_live, made, prints}
use Rattle.gn_replay.specs.Links.{LinkState, ended, greeting, joined}
use Rattle.gn_replay.specs.Pieces.{Admits, Linked, admits, completed, connects, delivers, delivers_if_connected, delivers_these, fault_ends, fault_plays, feeds_link, greets}
use Rattle.gn_replay.specs.Routes.{routes}
use Rattle.gn_replay.specs.ReplayText.{capture_plays, play_lines, plays, state_of}

-- the lines of what was played are those of the steps that it added to these
abbrev IsLined : {A : Type 0} → List (Step A) → Played A → Type 0
IsLined past p = steps_text (reverse p.past) ≡ steps_text (reverse past) ++ p.lines

module _ {A : Type 0} where
  unchanged : (past : List (Step A)) → steps_text (reverse past) ≡ steps_text (reverse past) ++ []
  unchanged past = sym (append-nil (steps_text (reverse past)))

  lined_followed : (past : List (Step A)) (first later : Played A) → IsLined past first → IsLined first.past later → IsLined past (followed first later)
  lined_followed past first later h k = k ∙ ap (λ r. r ++ later.lines) h ∙ append_assoc (steps_text (reverse past)) first.lines later.lines

  lined_answered : (past : List (Step A)) (event : Event A) (rules : Result (Reply A) Refusal) → IsLined past (answered past event rules)
  lined_answered past event (Ok reply) =
      let step : Step A = made event reply in
      ap steps_text (reverse-append (step ∷ []) past) ∙ flat_map-append step_text (reverse past) (step ∷ []) ∙ ap (λ r. steps_text (reverse past) ++ r) (append-nil (step_text step))
  lined_answered past event (Err refusal) = unchanged past

  module _ (s : Config) where
    lined_happens : (past : List (Step A)) (event : Event A) → IsLined past (happens s past event)
    lined_happens past event = lined_answered past event (answer s past event)

    lined_admits : (past : List (Step A)) (c : ℕ) (packets : List Packet) → IsLined past (admits s past c packets).played
    lined_admits past c [] = unchanged past
    lined_admits past c (d ∷ ds) =
        let here = happens s past (Admit c d) in
        let later = admits s here.past c ds in
        elim (is_not_live (answer s past (Admit c d))) as (λ b. let came : Admits A = if b then record { played = here; closed = true } else record { played = followed here later.played; closed = later.closed } in IsLined past came.played) [
          | true ↦ lined_happens past (Admit c d)
          | false ↦ lined_followed past here later.played (lined_happens past (Admit c d)) (lined_admits here.past c ds)
        ]

    lined_fault : (past : List (Step A)) (i c : ℕ) (fault : FrameFault) → IsLined past (fault_plays s past i c fault)
    lined_fault past i c fault = lined_followed past (prints past (frame_fault_text i fault)) (happens s past (Close c)) (unchanged past) (lined_happens past (Close c))

    lined_ends : (past : List (Step A)) (i c : ℕ) (bytes : List ℕ) (before : Played A) (fault : Option FrameFault) → IsLined past before → IsLined past (fault_ends s i c bytes before fault).played
    lined_ends past i c bytes before None h = h
    lined_ends past i c bytes before (Some fault) h = lined_followed past before (fault_plays s before.past i c fault) h (lined_fault before.past i c fault)

    lined_these : (past : List (Step A)) (i c : ℕ) (bytes : List ℕ) (packets : List Packet) (fault : Option FrameFault) → IsLined past (delivers_these s past i c bytes packets fault).played
    lined_these past i c bytes packets fault =
        let came = admits s past c packets in
        elim came.closed as (λ b. let linked : Linked A = if b then record { played = came.played; state = ended } else fault_ends s i c bytes came.played fault in IsLined past linked.played) [
          | true ↦ lined_admits past c packets
          | false ↦ lined_ends past i c bytes came.played fault (lined_admits past c packets)
        ]

    lined_delivers : (past : List (Step A)) (i c : ℕ) (bytes piece : List ℕ) → IsLined past (delivers s past i c bytes piece).played
    lined_delivers past i c bytes piece = lined_these past i c (bytes ++ piece) (completed bytes piece) (frames_of (bytes ++ piece)).fault

    lined_connected : (past : List (Step A)) (i : ℕ) (before : Played A) (piece : List ℕ) (made_one : Option ℕ) → IsLined past before → IsLined past (delivers_if_connected s i before piece made_one).played
    lined_connected past i before piece None h = h
    lined_connected past i before piece (Some c) h = lined_followed past before (delivers s before.past i c [] piece).played h (lined_delivers before.past i c [] piece)

    lined_connects : (past : List (Step A)) (i : ℕ) (piece : List ℕ) → IsLined past (connects s past i piece).played
    lined_connects past i piece = lined_connected past i (happens s past Connect) piece (connection_of (answer s past Connect)) (lined_happens past Connect)

    lined_greets : (past : List (Step A)) (i : ℕ) (bytes : List ℕ) (state : ShakeState) → IsLined past (greets s past i bytes state).played
    lined_greets past i bytes More = unchanged past
    lined_greets past i bytes Refused = unchanged past
    lined_greets past i bytes Done = lined_connects past i (drop (length request_text) bytes)

    lined_feeds : (past : List (Step A)) (i : ℕ) (piece : List ℕ) (state : LinkState) → IsLined past (feeds_link s past i piece state).played
    lined_feeds past i piece ended = unchanged past
    lined_feeds past i piece (greeting bytes) = lined_greets past i (bytes ++ piece) (greeting_state request_text (bytes ++ piece))
    lined_feeds past i piece (joined c bytes) = lined_delivers past i c bytes piece

    lined_routes : (past : List (Step A)) (tickets : List ℕ) → IsLined past (routes s past tickets)
    lined_routes past [] = unchanged past
    lined_routes past (t ∷ ts) =
        let here = happens s past (Route t) in
        lined_followed past here (routes s here.past ts) (lined_happens past (Route t)) (lined_routes here.past ts)

    lined_plays : (past : List (Step A)) (links : List LinkState) (l : Line A) → IsLined past (plays s past links l).played
    lined_plays past links line.Join = lined_happens past Connect
    lined_plays past links line.Greeted = unchanged past
    lined_plays past links (line.Piece i bytes) = lined_feeds past i bytes (state_of links i)
    lined_plays past links (line.Route t) = lined_happens past (Route t)
    lined_plays past links line.RouteAll = lined_routes past (flying past)
    lined_plays past links (line.Take c) = lined_happens past (Take c)
    lined_plays past links (line.Close c) = lined_happens past (Close c)
    lined_plays past links (line.Originate d) = lined_happens past (Originate d)
    lined_plays past links line.Stats = unchanged past

    lined_lines : (past : List (Step A)) (links : List LinkState) (lines : List (ℕ × Line A)) → IsLined past (play_lines s past links lines)
    lined_lines past links [] = unchanged past
    lined_lines past links ((n, l) ∷ more) =
        let here = plays s past links l in
        lined_followed past here.played (play_lines s here.played.past here.links more) (lined_plays past links l) (lined_lines here.played.past here.links more)

    -- the lines that a capture's lines make are those of all its steps
    pub lines_are : (lines : List (ℕ × Line A)) → (capture_plays s lines).lines ≡ steps_text (reverse (capture_plays s lines).past)
    lines_are lines = sym (lined_lines [] [] lines)
