-- The first fault of a capture.
use Rattle.std.proofs.Common.{◌≡◌, ℕ, Bool, List, [], ◌∷◌, refl, ap, subst, ◌∙◌, inl, inr, Result, Ok, Err}
use Rattle.gn_rules.specs.declared.config.Own.{Own}
use Rattle.gn_text.specs.Lines.{fields_of}
use Rattle.gn_numbers.specs.declared.causes.Cause.{Cause}
use Rattle.gn_text.specs.declared.fault.CaptureFault.{CaptureFault}
use Rattle.gn_text.specs.declared.fault.CaptureRefusal.{CaptureRefusal}
use Rattle.gn_text.specs.declared.fault.CaptureRefusal.TheVariants.{Fault, NoMemory}
use Rattle.gn_text.specs.Faults.{◌>>=◌, fault_at, IsRefused}
use Rattle.gn_text.specs.Parsed.{parsed_of}
use Rattle.gn_rules.specs.declared.limits.Numbers.{Numbers}
use Rattle.gn_capture.specs.declared.line.Line.{Line}
use Rattle.gn_capture.specs.CaptureLines.{line_in, links_after}
use Rattle.gn_capture.specs.Captures.{capture_header, capture_of, has_all, lines_from, parsed_by}
use Rattle.gn_capture.specs.FirstFaults.{IsFirstFault, NamesFirst}
use Rattle.gn_capture.specs.Outcomes.{numbered}

-- a fault of what is joined to others is one of the others
unjoined : {X Y E : Type 0} (f : X → Y) (read : Result X E) (fault : E) → (read >>= λ x. Ok (f x)) ≡ Err fault → read ≡ Err fault
unjoined f (Ok x) fault e = absurd cc
unjoined f (Err e) fault h = cc

-- line n, and the lines after it
abbrev pub line_then : {A : Type 0} → Bool → ℕ → ℕ → List (ℕ × List ℕ) → Result (Line A) Cause → Result (List (ℕ × Line A)) CaptureFault
line_then all links n more says = numbered n says >>= λ line. lines_from all (links_after links line) more >>= λ others. Ok ((n, line) ∷ others)

first_line : {A : Type 0} (all : Bool) (links n : ℕ) (text : List ℕ) (more : List (ℕ × List ℕ)) (fault : CaptureFault) (says : Result (Line A) Cause)
    → line_in all links (fields_of text) ≡ says → line_then all links n more says ≡ Err fault
    → ((after : ℕ) → lines_from {A = A} all after more ≡ Err fault → IsFirstFault A all after more fault)
    → IsFirstFault A all links ((n, text) ∷ more) fault
first_line {A} all links n text more fault (Err cause) q e later =
    let same : fault_at n cause ≡ fault = cc in
    let P : CaptureFault → Type 0 = λ f. IsFirstFault A all links ((n, text) ∷ more) f in
    subst P same (record { before = []; parsed = []; text = text; after = more; split = refl; valid = refl; spoils = q })
first_line {A} all links n text more fault (Ok line) q e later =
    let r = later (links_after links line) (unjoined (λ others. (n, line) ∷ others) (lines_from all (links_after links line) more) fault e) in
    record {
      before = (n, text) ∷ r.before;
      parsed = (n, line) ∷ r.parsed;
      text = r.text;
      after = r.after;
      split = ap (λ t. (n, text) ∷ t) r.split;
      valid = rw (q, r.valid) refl;
      spoils = r.spoils;
    }

first_in : {A : Type 0} (all : Bool) (lines : List (ℕ × List ℕ)) (links : ℕ) (fault : CaptureFault) → lines_from {A = A} all links lines ≡ Err fault → IsFirstFault A all links lines fault
first_in all [] links fault e = absurd cc
first_in all ((n, text) ∷ more) links fault e =
    first_line all links n text more fault (line_in all links (fields_of text)) refl e (λ after h. first_in all more after fault h)

first_of : {A : Type 0} (text : List ℕ) (fault : CaptureFault) (header : Result ((Numbers × Own) × List (ℕ × List ℕ)) CaptureFault)
    → capture_header text ≡ header → (header >>= parsed_by {A = A} (has_all (parsed_of text))) ≡ Err fault → NamesFirst A text (Fault fault)
first_of text fault (Err other) q e = let same : other ≡ fault = cc in inl (q ∙ ap Err same)
first_of {A} text fault (Ok header) q e =
    let all = has_all (parsed_of text) in
    inr (header, q, first_in all header.1 0 fault (unjoined (λ lines. record { numbers = header.0.0; own = header.0.1; lines = lines }) (lines_from {A = A} all 0 header.1) fault e))

pub known_first : (A : Type 0) (text : List ℕ) (refusal : CaptureRefusal) → IsRefused refusal (capture_of {A = A} text) → NamesFirst A text refusal
known_first A text NoMemory h = _
known_first A text (Fault fault) h = first_of {A = A} text fault (capture_header text) refl h

-- a refusal of the lines after the first three is one of the capture
pub body_refused : (A : Type 0) (text : List ℕ) (header : (Numbers × Own) × List (ℕ × List ℕ)) (refusal : CaptureRefusal)
    → capture_header text ≡ Ok header → IsRefused refusal (lines_from {A = A} (has_all (parsed_of text)) 0 header.1) → IsRefused refusal (capture_of {A = A} text)
body_refused A text header NoMemory q h = _
body_refused A text header (Fault fault) q h = rw (q, h) refl
