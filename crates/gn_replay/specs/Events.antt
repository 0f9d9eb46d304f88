-- What events of a replay do and print.
use Rattle.std.specs.Prelude.{◌+◌, ℕ, Bool, true, false, List, [], ◌∷◌, ◌++◌, Option, None, Result, Ok, Err}
use Rattle.gn_rules.specs.declared.config.Config.{Config}
use Rattle.gn_rules.specs.declared.event.Event.{Event}
use Rattle.gn_rules.specs.declared.receipt.Step.{Step}
use Rattle.gn_rules.specs.declared.refusal.Refusal.{Refusal}
use Rattle.gn_rules.specs.declared.refusal.Refusal.TheVariants.{NotLive}
use Rattle.gn_rules.specs.declared.reply.Reply.{Reply}
use Rattle.gn_rules.specs.Answer.{answer}
use Rattle.gn_rules.specs.History.{connected_of}
use Rattle.gn_text.specs.Refusals.{refusal_text}
use Rattle.gn_text.specs.Steps.{step_text}

-- what was played: the steps that stand then, the newest first, what was printed, the lines of the steps that were made
-- among it, and how many events were refused
pub record Played (A : Type 0) : Type 0 where
  pub past : List (Step A)
  pub text : List ℕ
  pub lines : List ℕ
  pub refusals : ℕ

-- nothing happens
abbrev pub nothing : {A : Type 0} → List (Step A) → Played A
nothing past = record { past = past; text = []; lines = []; refusals = 0 }

-- a text is printed
abbrev pub prints : {A : Type 0} → List (Step A) → List ℕ → Played A
prints past text = record { past = past; text = text; lines = []; refusals = 0 }

-- one after the other
abbrev pub followed : {A : Type 0} → Played A → Played A → Played A
followed first later = record {
  past = later.past;
  text = first.text ++ later.text;
  lines = first.lines ++ later.lines;
  refusals = first.refusals + later.refusals;
}

-- an event was refused
abbrev pub refuses : {A : Type 0} → List (Step A) → Refusal → Played A
refuses past refusal = record { past = past; text = refusal_text refusal; lines = []; refusals = 1 }

-- the step of an event that was replied to: all events of a replay are by actor 0
abbrev pub made : {A : Type 0} → Event A → Reply A → Step A
made event reply = record { actor = 0; event = event; reply = reply }

-- the steps after an event that was answered so
abbrev pub past_then : {A : Type 0} → List (Step A) → Event A → Result (Reply A) Refusal → List (Step A)
past_then past event (Ok reply) = made event reply ∷ past
past_then past event (Err refusal) = past

-- the line of an event that was answered so
abbrev pub answer_text : {A : Type 0} → Event A → Result (Reply A) Refusal → List ℕ
answer_text event (Ok reply) = step_text (made event reply)
answer_text event (Err refusal) = refusal_text refusal

-- the line of the step that an answer made, where it made one
abbrev pub made_line : {A : Type 0} → Event A → Result (Reply A) Refusal → List ℕ
made_line event (Ok reply) = step_text (made event reply)
made_line event (Err refusal) = []

-- one, where the event was refused
abbrev pub refusals_in : {A : Type 0} → Result (Reply A) Refusal → ℕ
refusals_in (Ok reply) = 0
refusals_in (Err refusal) = 1

-- an event that is answered so
abbrev pub answered : {A : Type 0} → List (Step A) → Event A → Result (Reply A) Refusal → Played A
answered past event answer = record {
  past = past_then past event answer;
  text = answer_text event answer;
  lines = made_line event answer;
  refusals = refusals_in answer;
}

-- an event happens: it is answered by the rules
abbrev pub happens : {A : Type 0} → Config → List (Step A) → Event A → Played A
happens s past event = answered past event (answer s past event)

-- the connection that the answer to a Connect makes
abbrev pub connection_of : {A : Type 0} → Result (Reply A) Refusal → Option ℕ
connection_of (Ok reply) = connected_of reply
connection_of (Err refusal) = None

-- whether an event was refused since its connection isn't live
abbrev pub is_not_live : {A : Type 0} → Result (Reply A) Refusal → Bool
is_not_live (Err NotLive) = true
is_not_live answer = false
