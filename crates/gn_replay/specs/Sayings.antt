-- What a replay says beside the steps of its router.
use Rattle.std.specs.Prelude.{ℕ, List}
use Rattle.gn_text.specs.Links.{ended_text, frame_fault_text, greeting_refused_text}
use Rattle.gn_text.specs.Refusals.{refusal_text}
use Rattle.gn_replay.specs.declared.saying.Saying.{Saying}
use Rattle.gn_replay.specs.declared.saying.Saying.TheVariants as saying

-- its line
abbrev pub saying_text : Saying → List ℕ
saying_text (saying.Refused refusal) = refusal_text refusal
saying_text (saying.Fault i fault) = frame_fault_text i fault
saying_text (saying.GreetingRefused i) = greeting_refused_text i
saying_text (saying.Ended i) = ended_text i
