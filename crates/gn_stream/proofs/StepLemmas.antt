-- The step of a line.
use Rattle.std.proofs.Common.{◌≡◌, ◌∙◌, ℕ, List, [], ◌∷◌, Option, Some, None, Result, Ok, Err, refl, sym, ap, subst}
use Rattle.std.specs.Result.{IsErrAnd}
use Rattle.gn_rules.specs.declared.receipt.Step.{Step}
use Rattle.gn_numbers.specs.declared.causes.Cause.TheVariants.{End}
use Rattle.gn_text.specs.declared.fault.CaptureRefusal.{CaptureRefusal}
use Rattle.gn_text.specs.declared.fault.CaptureRefusal.TheVariants.{Fault, NoMemory}
use Rattle.gn_text.specs.Faults.{IsRead, IsRefused, fault_at, refused_at}
use Rattle.gn_capture.specs.Histories.{ended, line_parsed, map_result, steps_from, steps_left}
use Rattle.gn_stream.specs.declared.fault.StreamFault.{StreamFault}
use Rattle.gn_stream.specs.declared.fault.StreamFault.TheVariants.{Input, Text}
use Rattle.gn_stream.specs.Left.{AreSkipped, IsFirstNumbered, Left, numbered_left}
use Rattle.gn_stream.specs.Reading.{IsReadOf, Passes, Place}
use Rattle.gn_stream.specs.Steps.{AreRefused, IsEndRead, IsEndRefused, IsEnding, IsNone, IsStep, IsStepOrEnd}
use Rattle.gn_stream.proofs.NumberedLemmas.{after_all, after_same}
use Rattle.gn_stream.proofs.PassLemmas.{gone_then, passes_so, passes_then, read_then}

-- no line is left, and so the line `end` is missing
pub end_missing : (A : Type 0) (a b : Place) → Passes AreSkipped a b → Passes (λ left _. AreRefused A (refused_at b.reading.next End) left) a b
end_missing A a b skipped = record {
  bytes = skipped.bytes;
  given = skipped.given;
  ended = skipped.ended;
  holds = λ more may.
      let gone = skipped.holds more may in
      rw gone.lines (ap (λ (n : ℕ). Err (fault_at n End)) (after_all _ _ gone));
}

-- nothing stands after the line `end`
pub end_found : (A : Type 0) (a b : Place) → Passes AreSkipped a b → Passes (IsNone A) a b
end_found A a b skipped = passes_so AreSkipped (IsNone A) a b (λ l m is. record { gone = is.gone; none = is.none; said = rw is.lines refl }) skipped

-- or something does
pub end_passed : (A : Type 0) (number : ℕ) (line : List ℕ) (a b : Place) → Passes (IsFirstNumbered number line) a b
    → Passes (λ left _. IsEndRefused A (refused_at number End) left) a b
end_passed A number line a b first =
    passes_so (IsFirstNumbered number line) (λ left _. IsEndRefused A (refused_at number End) left) a b (λ l m is. rw is.lines refl) first

module _ (A : Type 0) (number : ℕ) (line : List ℕ) where
  step_said : (step : Step A) (l m : Left) → line_parsed (number, line) ≡ Ok (Some step) → IsFirstNumbered number line l m → IsStep line number step l m
  step_said step l m parsed is = record {
    gone = is.gone;
    stands = is.lines;
    says = rw (is.lines, parsed) (ap (λ (n : ℕ). map_result (λ xs. step ∷ xs) (steps_from n (numbered_left m).lines)) (after_same l m is.gone));
    least = is.least;
    first = is.first;
  }

  -- a step stands in the line
  pub step_found : (step : Step A) (a b : Place) → line_parsed (number, line) ≡ Ok (Some step) → Passes (IsFirstNumbered number line) a b → Passes (IsStep line number step) a b
  step_found step a b parsed first = passes_so (IsFirstNumbered number line) (IsStep line number step) a b (λ l m. step_said step l m parsed) first

  refused_there : (refusal : CaptureRefusal) (l m : Left) → IsRefused refusal (line_parsed {A = A} (number, line)) → IsFirstNumbered number line l m → AreRefused A refusal l
  refused_there NoMemory l m refused is = tt
  refused_there (Fault fault) l m refused is = rw (is.lines, refused) refl

  -- or none does
  pub line_refused : (refusal : CaptureRefusal) (a b : Place) → IsRefused refusal (line_parsed {A = A} (number, line)) → Passes (IsFirstNumbered number line) a b
      → Passes (λ left _. AreRefused A refusal left) a b
  line_refused refusal a b refused first =
      passes_so (IsFirstNumbered number line) (λ left _. AreRefused A refusal left) a b (λ l m. refused_there refusal l m refused) first

  at_end : (l m : Left) → line_parsed {A = A} (number, line) ≡ Ok None → IsFirstNumbered number line l m → steps_left {A = A} (numbered_left l) ≡ ended (numbered_left m).lines
  at_end l m parsed is = rw (is.lines, parsed) refl

  end_refused : (refusal : CaptureRefusal) (l m : Left) → line_parsed {A = A} (number, line) ≡ Ok None → IsFirstNumbered number line l m → IsEndRefused A refusal m → AreRefused A refusal l
  end_refused NoMemory l m parsed is refused = tt
  end_refused (Fault fault) l m parsed is refused = at_end l m parsed is ∙ refused

  -- it is the line `end`, whatever the value is called
  end_after : {S : Type 0} (Both : S → Left → Left → Type 0) (a b c : Place) (r : Result S StreamFault) → line_parsed {A = A} (number, line) ≡ Ok None
      → ((x : S) (l m n : Left) → IsFirstNumbered number line l m → IsNone A m n → Both x l n) → Passes (IsFirstNumbered number line) a b
      → IsReadOf (λ _. IsNone A) (IsEndRefused A) r b c → IsReadOf Both (AreRefused A) r a c
  end_after Both a b c r parsed both first read =
      read_then (IsFirstNumbered number line) (λ _. IsNone A) (IsEndRefused A) Both (AreRefused A) a b c r (λ l m is. is.gone) both
      (λ refusal l m is. end_refused refusal l m parsed is) first read

  pub end_read : (a b c : Place) (nothing : Unit {0}) → line_parsed {A = A} (number, line) ≡ Ok None → Passes (IsFirstNumbered number line) a b → Passes (IsNone A) b c
      → Passes (IsEnding A steps_left) a c
  end_read a b c nothing parsed first read =
      passes_then (IsFirstNumbered number line) (IsNone A) (IsEnding A steps_left) a b c
      (λ l m n is none. record { gone = gone_then l m n is.gone none.gone; none = none.none; said = at_end l m parsed is ∙ none.said }) first read

  pub end_failed : (r : Result (Option (ℕ × Step A)) StreamFault) (fault : StreamFault) (a b c : Place) (last : List ℕ) → IsErrAnd r (λ e. e ≡ fault)
      → line_parsed {A = A} (number, line) ≡ Ok None → Passes (IsFirstNumbered number line) a b → IsEndRead A (Err fault) b c
      → IsReadOf (IsStepOrEnd last) (AreRefused A) r a c
  end_failed (Ok x) fault a b c last is parsed first read = absurd is
  end_failed (Err e) fault a b c last is parsed first read =
      subst (λ (f : StreamFault). IsReadOf (IsStepOrEnd {A = A} last) (AreRefused A) (Err f) a c) (sym is)
      (end_after {S = Option (ℕ × Step A)} (λ x l n. Unit {0}) a b c (Err fault) parsed (λ x l m n h k. tt) first (by fault read))
    where
      by : (f : StreamFault) → IsEndRead A (Err f) b c → IsReadOf {T = Option (ℕ × Step A)} (λ _. IsNone A) (IsEndRefused A) (Err f) b c
      by (Text refusal) read = read
      by (Input f) read = read

  pub line_failed : (r : Result (Option (ℕ × Step A)) StreamFault) (refusal : CaptureRefusal) (a b : Place) → IsErrAnd r (λ e. e ≡ Text refusal)
      → IsRefused refusal (line_parsed {A = A} (number, line)) → Passes (IsFirstNumbered number line) a b → IsReadOf (IsStepOrEnd line) (AreRefused A) r a b
  line_failed (Ok x) refusal a b is refused first = absurd is
  line_failed (Err e) refusal a b is refused first =
      subst (λ (f : StreamFault). IsReadOf (IsStepOrEnd {A = A} line) (AreRefused A) (Err f) a b) (sym is) (line_refused refusal a b refused first)
