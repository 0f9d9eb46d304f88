-- A router that is given the steps of a history as they are read.
use Rattle.std.proofs.Common.{◌≡◌, ◌<◌, ◌≤◌, ◌+◌, ◌^◌, ◌++◌, ◌∙◌, ℕ, List, [], ◌∷◌, length, reverse, Some, Result, Ok, Err, refl, sym, ap, subst, arith, append-nil, append_assoc, length-append}
use Rattle.std.specs.Prelude.{is_ok}
use Rattle.std.specs.List.{slice_get}
use Rattle.std.specs.Result.{IsErrAnd}
use Rattle.gn_rules.specs.declared.config.Config.{Config}
use Rattle.gn_rules.specs.declared.receipt.Step.{Step}
use Rattle.gn_rules.specs.Answer.{answer, IsLegal}
use Rattle.gn_text.specs.declared.fault.CaptureFault.{CaptureFault}
use Rattle.gn_text.specs.declared.fault.CaptureRefusal.{CaptureRefusal}
use Rattle.gn_text.specs.declared.fault.CaptureRefusal.TheVariants.{Fault, NoMemory}
use Rattle.gn_text.specs.Faults.{IsRefused}
use Rattle.gn_text.specs.Parsed.{Numbered}
use Rattle.gn_capture.specs.Histories.{map_result, steps_left}
use Rattle.gn_capture.proofs.StepsLemmas.{known}
use Rattle.gn_stream.specs.declared.fault.StreamFault.{StreamFault}
use Rattle.gn_stream.specs.declared.fault.StreamFault.TheVariants.{Input, Text}
use Rattle.gn_stream.specs.Left.{AreGone, Left, numbered_left}
use Rattle.gn_stream.specs.Reading.{IsReadOf, Passes, Place}
use Rattle.gn_stream.specs.Steps.{AreRefused, IsEnding, IsStep}
use Rattle.gn_stream.proofs.PassLemmas.{fault_then, gone_none, gone_then, passes_none, passes_so, passes_then}
use Rattle.gn_replay.specs.declared.judgement.Judgement.TheVariants.{Legal, WrongAt}
use Rattle.gn_replay.specs.declared.judgement.WrongStep.{WrongStep}
use Rattle.gn_replay.specs.Judgements.{ArePassed, IsFoundIn, SayMade}
use Rattle.gn_replay.proofs.JudgeLemmas.{IsLeftOf, IsRepeating, found_wrong, legal_few, repeating_more, rest_more}

-- what is left is refused, and so is it with what was read of it
pub known_refused : {A : Type 0} (head : List (Step A)) (left : Numbered) (all : Result (List (Step A)) CaptureFault) (refusal : CaptureRefusal) → known head left ≡ all
    → IsRefused refusal (steps_left {A = A} left) → IsRefused refusal all
known_refused head left all NoMemory is refused = tt
known_refused head left all (Fault fault) is refused = sym is ∙ ap (map_result (λ more. head ++ more)) refused

-- some steps were read
pub record IsRead (A : Type 0) (old new : Left) : Type 0 where
  pub gone : AreGone old new
  pub rest : IsLeftOf {A = A} (steps_left (numbered_left old)) (numbered_left new)

all_known : {A : Type 0} (left : Result (List (Step A)) CaptureFault) → map_result (λ more. [] ++ more) left ≡ left
all_known (Ok steps) = refl
all_known (Err fault) = refl

pub read_none : (A : Type 0) (a : Place) → Passes (IsRead A) a a
read_none A a = passes_none (IsRead A) a (λ l. record { gone = gone_none l; rest = ([], all_known (steps_left (numbered_left l))) })

pub read_more : {A : Type 0} (line : List ℕ) (number : ℕ) (step : Step A) (a b c : Place) → Passes (IsRead A) a b → Passes (IsStep line number step) b c → Passes (IsRead A) a c
read_more {A} line number step a b c =
    passes_then (IsRead A) (IsStep line number step) (IsRead A) a b c
    (λ l m n read is. record {
      gone = gone_then l m n read.gone is.gone;
      rest = rest_more (steps_left (numbered_left l)) (numbered_left m) (numbered_left n) step read.rest is.says;
    })

ended_whole : {A : Type 0} (head : List (Step A)) (left : Numbered) (all : Result (List (Step A)) CaptureFault) → known head left ≡ all → steps_left {A = A} left ≡ Ok [] → all ≡ Ok head
ended_whole {A} head left all is end =
    sym is ∙ ap (map_result (λ (more : List (Step A)). head ++ more)) end ∙ ap (λ (steps : List (Step A)). Ok steps) (append-nil head)

pub read_all : (A : Type 0) (a b c : Place) → Passes (IsRead A) a b → Passes (IsEnding A steps_left) b c → Passes (ArePassed A) a c
read_all A a b c =
    passes_then (IsRead A) (IsEnding A steps_left) (ArePassed A) a b c
    (λ l m n read is. record {
      gone = gone_then l m n read.gone is.gone;
      none = is.none;
      read =
          ap (λ (all : Result (List (Step A)) CaptureFault). is_ok all) (ended_whole read.rest.0 (numbered_left m) (steps_left (numbered_left l)) read.rest.1 is.said);
    })

pub read_refused : {T S : Type 0} (A : Type 0) (Then : T → Left → Left → Type 0) (Both : S → Left → Left → Type 0) (a b c : Place) (r : Result S StreamFault) (fault : StreamFault)
    → IsErrAnd r (λ e. e ≡ fault) → Passes (IsRead A) a b → IsReadOf Then (AreRefused A) (Err fault) b c → IsReadOf Both (AreRefused A) r a c
read_refused A Then Both a b c (Ok x) fault is first read = absurd is
read_refused {T} {S} A Then Both a b c (Err e) fault is first read =
    subst (λ (f : StreamFault). IsReadOf Both (AreRefused A) (Err f) a c) (sym is) (by fault read)
  where
    by : (f : StreamFault) → IsReadOf Then (AreRefused A) (Err f) b c → IsReadOf Both (AreRefused A) (Err f) a c
    by (Text refusal) read =
        passes_then (IsRead A) (λ left _. AreRefused A refusal left) (λ left _. AreRefused A refusal left) a b c
        (λ l m n h. known_refused h.rest.0 (numbered_left m) (steps_left (numbered_left l)) refusal h.rest.1) first read
    by (Input f) read = fault_then (IsRead A) a b c f (λ l m h. h.gone) first read

-- a router made the steps that were read
pub record Repeats {A : Type 0} (s now : Config) (made : List (Step A)) (i : ℕ) (old new : Left) : Type 0 where
  pub gone : AreGone old new
  pub so_far : IsRepeating s now made (numbered_left new) (steps_left (numbered_left old)) i
  pub passed : List (ℕ × List ℕ)
  pub lines : (numbered_left old).lines ≡ passed ++ (numbered_left new).lines
  pub many : length passed ≡ i

-- none yet
pub repeats_none : {A : Type 0} (s : Config) (made : List (Step A)) (a : Place) → made ≡ [] → Passes (Repeats s s made 0) a a
repeats_none {A} s made a none =
    passes_none (Repeats s s made 0) a
    (λ l. record {
      gone = gone_none l;
      so_far = record {
        same = refl;
        known = ap (λ (head : List (Step A)). known head (numbered_left l)) none ∙ all_known (steps_left (numbered_left l));
        legal = subst (λ (steps : List (Step A)). IsLegal s (reverse steps)) (sym none) tt;
        counted = sym (ap length none);
      };
      passed = [];
      lines = refl;
      many = refl;
    })

-- a step, and then the others up to the end
abbrev pub IsLater : (A : Type 0) → List ℕ → ℕ → Step A → Left → Left → Type 0
IsLater A line number step l n = (m : Left) × IsStep line number step l m × ArePassed A m n

module _ {A : Type 0} (s now : Config) (made : List (Step A)) (i : ℕ) (line : List ℕ) (number : ℕ) (step : Step A) where
  more_of : (later : Config) (grown : List (Step A)) (l m n : Left) → answer now (reverse made) step.event ≡ Ok step.reply → later ≡ now → grown ≡ made ++ step ∷ []
      → Repeats s now made i l m → IsStep line number step m n → Repeats s later grown (i + 1) l n
  more_of later grown l m n answered same grew repeats is = record {
    gone = gone_then l m n repeats.gone is.gone;
    so_far =
        repeating_more s now made (numbered_left m) (numbered_left n) (steps_left (numbered_left l)) i step is.says repeats.so_far later grown answered same grew;
    passed = repeats.passed ++ (number, line) ∷ [];
    lines =
        repeats.lines ∙ ap (λ (xs : List (ℕ × List ℕ)). repeats.passed ++ xs) is.stands
        ∙ sym (append_assoc repeats.passed ((number, line) ∷ []) (numbered_left n).lines);
    many = omega (arith, repeats.many, length-append repeats.passed ((number, line) ∷ []));
  }

  -- one more
  pub repeats_more : (later : Config) (grown : List (Step A)) (a b c : Place) → answer now (reverse made) step.event ≡ Ok step.reply → later ≡ now → grown ≡ made ++ step ∷ []
      → Passes (Repeats s now made i) a b → Passes (IsStep line number step) b c → Passes (Repeats s later grown (i + 1)) a c
  repeats_more later grown a b c answered same grew =
      passes_then (Repeats s now made i) (IsStep line number step) (Repeats s later grown (i + 1)) a b c (λ l m n. more_of later grown l m n answered same grew)

  stands_there : (passed more lines : List (ℕ × List ℕ)) → lines ≡ passed ++ (number, line) ∷ more → length passed ≡ i → slice_get lines i ≡ Some (number, line)
  stands_there passed more lines is many = rw (is, ← many) (at_seam passed)
    where
      at_seam : (xs : List (ℕ × List ℕ)) → slice_get (xs ++ (number, line) ∷ more) (length xs) ≡ Some (number, line)
      at_seam [] = refl
      at_seam (x ∷ xs) = at_seam xs

  -- its reply is another than the rules' answer, and the others were read
  pub wrong_found : (wrong : WrongStep A) (a b c d : Place) → wrong.index ≡ i → wrong.number ≡ number → wrong.line.items ≡ line
      → answer now (reverse made) step.event ≡ wrong.rules → (answer now (reverse made) step.event ≡ Ok step.reply → ⊥)
      → Passes (Repeats s now made i) a b → Passes (IsStep line number step) b c → Passes (ArePassed A) c d → Passes (IsFoundIn s (WrongAt wrong) i) a d
  wrong_found wrong a b c d at counted copied found other first second third =
      passes_then (Repeats s now made i) (IsLater A line number step) (IsFoundIn s (WrongAt wrong) i) a b d both first
      (passes_then (IsStep line number step) (ArePassed A) (IsLater A line number step) b c d (λ l m n is passed. (m, is, passed)) second third)
    where
      both : (l m n : Left) → Repeats s now made i l m → IsLater A line number step m n → IsFoundIn s (WrongAt wrong) i l n
      both l m n repeats later = record {
        gone = gone_then l m n repeats.gone (gone_then m later.0 n later.1.gone later.2.gone);
        none = later.2.none;
        found =
            found_wrong s now made (numbered_left m) (numbered_left later.0) (steps_left (numbered_left l)) i step later.1.says repeats.so_far wrong at later.2.read found other;
        stands =
            ap (slice_get (numbered_left l).lines) at
            ∙ stands_there repeats.passed (numbered_left later.0).lines (numbered_left l).lines
            (repeats.lines ∙ ap (λ (xs : List (ℕ × List ℕ)). repeats.passed ++ xs) later.1.stands) repeats.many
            ∙ ap Some (ap (λ (n : ℕ). (n, line)) (sym counted) ∙ ap (λ (xs : List ℕ). (wrong.number, xs)) (sym copied));
      }

-- all are right
pub legal_found : {A : Type 0} (s now : Config) (made : List (Step A)) (i : ℕ) (a b c : Place) → Passes (Repeats s now made i) a b → Passes (IsEnding A steps_left) b c
    → Passes (IsFoundIn {A = A} s Legal i) a c
legal_found {A} s now made i a b c =
    passes_then (Repeats s now made i) (IsEnding A steps_left) (IsFoundIn {A = A} s Legal i) a b c
    (λ l m n repeats is. record {
      gone = gone_then l m n repeats.gone is.gone;
      none = is.none;
      found = record {
        steps = made;
        parsed = ended_whole made (numbered_left m) (steps_left (numbered_left l)) repeats.so_far.known is.said;
        judged = repeats.so_far.legal;
        counted = λ legal. repeats.so_far.counted;
      };
      stands = tt;
    })

-- and the router made each of them
pub legal_made : {A : Type 0} (s now : Config) (made : List (Step A)) (i : ℕ) (a b c : Place) → Passes (Repeats s now made i) a b → Passes (IsEnding A steps_left) b c
    → Passes (SayMade made) a c
legal_made {A} s now made i a b c =
    passes_then (Repeats s now made i) (IsEnding A steps_left) (SayMade made) a b c
    (λ l m n repeats is. ended_whole made (numbered_left m) (steps_left (numbered_left l)) repeats.so_far.known is.said)

-- a router that made steps finds what is left at fault
pub repeats_refused : {A T S : Type 0} (s now : Config) (made : List (Step A)) (i : ℕ) (Then : T → Left → Left → Type 0) (Both : S → Left → Left → Type 0) (a b c : Place) (r : Result S StreamFault) (fault : StreamFault)
    → IsErrAnd r (λ e. e ≡ fault) → Passes (Repeats s now made i) a b → IsReadOf Then (AreRefused A) (Err fault) b c → IsReadOf Both (AreRefused A) r a c
repeats_refused {A} {T} {S} s now made i Then Both a b c r fault is first =
    read_refused {T = T} A Then Both a b c r fault is
    (passes_so (Repeats s now made i) (IsRead A) a b (λ l m h. record { gone = h.gone; rest = (made, h.so_far.known) }) first)

-- so few steps were made
pub few_made : {A : Type 0} (s now : Config) (made : List (Step A)) (i : ℕ) (a b : Place) → Passes (Repeats s now made i) a b → i < 2 ^ 32
few_made s now made i a b passes =
    let is = passes.holds [] (λ ended. refl) in
    omega (arith, is.so_far.counted, legal_few s made is.so_far.legal)

module _ {A T : Type 0} (s now : Config) (made : List (Step A)) (i : ℕ) (line : List ℕ) (number : ℕ) (step : Step A) (Holds : T → Left → Left → Type 0) (r : Result T StreamFault) where
  -- memory ran out at a step
  pub step_unread : (a b c : Place) → IsErrAnd r (λ e. e ≡ Text NoMemory) → Passes (Repeats s now made i) a b → Passes (IsStep line number step) b c
      → IsReadOf Holds (AreRefused A) r a c
  step_unread a b c is first second = by r is
    where
      by : (x : Result T StreamFault) → IsErrAnd x (λ e. e ≡ Text NoMemory) → IsReadOf Holds (AreRefused A) x a c
      by (Ok x) is = absurd is
      by (Err e) is =
          subst (λ (f : StreamFault). IsReadOf Holds (AreRefused A) (Err f) a c) (sym is)
          (passes_then (Repeats s now made i) (IsStep line number step) (λ left _. AreRefused A NoMemory left) a b c (λ l m n h k. tt) first second)

  -- what is left after a step is at fault
  pub step_refused : {S : Type 0} (Then : S → Left → Left → Type 0) (a b c d : Place) (fault : StreamFault) → IsErrAnd r (λ e. e ≡ fault) → Passes (Repeats s now made i) a b
      → Passes (IsStep line number step) b c → IsReadOf Then (AreRefused A) (Err fault) c d → IsReadOf Holds (AreRefused A) r a d
  step_refused {S} Then a b c d fault is first second =
      read_refused {T = S} A Then Holds a c d r fault is
      (read_more line number step a b c (passes_so (Repeats s now made i) (IsRead A) a b (λ l m h. record { gone = h.gone; rest = (made, h.so_far.known) }) first) second)

-- the number of the next line grows
pub step_grows : {A : Type 0} (line : List ℕ) (number : ℕ) (step : Step A) (a b : Place) → Passes (IsStep line number step) a b
    → (a.reading.next ≤ number) × (b.reading.next ≡ number + 1)
step_grows line number step a b passes = let is = passes.holds [] (λ ended. refl) in (is.least, is.first)
