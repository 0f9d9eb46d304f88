-- A text put together, and one that was read in parts.
use Rattle.std.proofs.Common.{◌≡◌, ℕ, List, ◌++◌, length, take, refl, ap, ◌∙◌, Result, Ok, Err}
use Rattle.std.specs.Prelude.{if◌then◌else◌, OnErr}
use Rattle.std.specs.Result.{is_ok}
use Rattle.std.proofs.Math.Seq.{take-append_seam}
use Rattle.gn_rules.specs.declared.config.Own.{Own}
use Rattle.gn_rules.specs.declared.receipt.Step.{Step}
use Rattle.gn_text.specs.declared.fault.CaptureFault.{CaptureFault}
use Rattle.gn_text.specs.declared.fault.CaptureRefusal.{CaptureRefusal}
use Rattle.gn_text.specs.declared.fault.CaptureRefusal.TheVariants.{Fault, NoMemory}
use Rattle.gn_text.specs.Faults.{IsRefused}
use Rattle.gn_numbers.specs.declared.titles.Text.TheVariants.{History}
use Rattle.gn_text.specs.Header.{header_of}
use Rattle.gn_text.specs.Parsed.{parsed_of, line_after}
use Rattle.gn_text.proofs.KeptLemmas.{two_parts}
use Rattle.gn_rules.specs.declared.limits.Numbers.{Numbers}
use Rattle.gn_capture.specs.Histories.{history_of, map_result, steps_from}

-- what was appended to a text leaves it first
begins : (old more new : List ℕ) → new ≡ old ++ more → take (length old) new ≡ old
begins old more new is = rw is (take-append_seam old more)

-- what stood before parts that were appended one after the other stays where the last one fails
pub part_of_text : {X E : Type 0} (r : Result X E) (old t1 t2 new a b c : List ℕ) → t1 ≡ old ++ a → t2 ≡ t1 ++ b
    → new ≡ (if is_ok r then t2 ++ c else t2) → OnErr r (take (length old) new ≡ old)
part_of_text (Ok x) old t1 t2 new a b c first second last = _
part_of_text (Err e) old t1 t2 new a b c first second last = begins old (a ++ b) new (last ∙ two_parts old t1 t2 a b first second)

-- a history is its header and the steps that are left after it
pub history_opened : {A : Type 0} (text : List ℕ) (lines : List (ℕ × List ℕ)) (after later : ℕ) (settings : Numbers × Own) (more : List (ℕ × List ℕ))
    → lines ≡ parsed_of text → after ≡ line_after text → header_of History after lines ≡ Ok (settings, more) → later ≡ after
    → history_of {A = A} text ≡ map_result (λ steps. (settings, steps)) (steps_from later more)
history_opened text lines after later settings more e f h same =
    rw (← e, ← f, h, same) refl

-- the steps that are left were read
pub history_read : {A : Type 0} (text : List ℕ) (settings : Numbers × Own) (left : Result (List (Step A)) CaptureFault) (steps : List (Step A))
    → history_of text ≡ map_result (λ steps. (settings, steps)) left → left ≡ Ok steps → history_of text ≡ Ok (settings, steps)
history_read text settings left steps opened is = opened ∙ ap (map_result (λ steps. (settings, steps))) is

-- a refusal of the steps that are left is one of the history
pub left_refused : {A : Type 0} (text : List ℕ) (settings : Numbers × Own) (left : Result (List (Step A)) CaptureFault) (refusal : CaptureRefusal)
    → history_of text ≡ map_result (λ steps. (settings, steps)) left → IsRefused refusal left → IsRefused refusal (history_of {A = A} text)
left_refused text settings left NoMemory opened is = _
left_refused text settings left (Fault fault) opened is = opened ∙ ap (map_result (λ steps. (settings, steps))) is

-- a refusal of the header is one of the history
pub header_refused : (A : Type 0) (text : List ℕ) (lines : List (ℕ × List ℕ)) (after : ℕ) (refusal : CaptureRefusal) → lines ≡ parsed_of text → after ≡ line_after text
    → IsRefused refusal (header_of History after lines) → IsRefused refusal (history_of {A = A} text)
header_refused A text lines after NoMemory e f h = _
header_refused A text lines after (Fault fault) e f h = rw (← e, ← f, h) refl
