-- What the fields of a step line say.
use Rattle.std.specs.Prelude.{ℕ, if◌then◌else◌, List, [], ◌∷◌, codes, Option, Some, None}
use Rattle.gn_rules.specs.declared.receipt.Step.{Step}
use Rattle.gn_rules.specs.declared.reply.Reply.{Reply}
use Rattle.gn_numbers.specs.Numbers.{◌>>=◌}
use Rattle.gn_text.specs.Lines.{is_word}
use Rattle.gn_capture.specs.Events.{number_first, event_first}
use Rattle.gn_capture.specs.Replies.{reply_parsed}

-- the reply that the fields after = say
abbrev pub answer_parsed : {A : Type 0} → List (List ℕ) → Option (Reply A)
answer_parsed [] = None
answer_parsed (word ∷ more) = if is_word word (codes "=") then reply_parsed more else None

-- the step that the fields of a line `ACTOR EVENT = REPLY` say
abbrev pub step_parsed : {A : Type 0} → List (List ℕ) → Option (Step A)
step_parsed fields = do
  actor ← number_first fields
  event ← event_first actor.1
  reply ← answer_parsed event.1
  Some (record { actor = actor.0; event = event.0; reply = reply })
