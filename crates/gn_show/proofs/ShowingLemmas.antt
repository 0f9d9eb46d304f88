-- A history that is shown as its lines are read.
use Rattle.std.proofs.Common.{◌≡◌, ◌+◌, ◌++◌, ◌∙◌, ℕ, List, [], ◌∷◌, length, drop, get_or, reverse, refl, sym, ap, subst, arith, append_assoc, append-nil, length-append, Option, Some, None, Result, Ok, Err}
use Rattle.std.proofs.lemmas.List.{drop-drop, reverse-append}
use Rattle.std.specs.Prelude.{IfErr, option_map}
use Rattle.std.specs.Result.{IsErrAnd}
use Rattle.std.specs.declared.alloc.Global.{Global}
use Rattle.gn_io.specs.Parts.{AppendsPart, LeavesToWrite, WaitsPart}
use Rattle.gn_io.specs.Streams.{HasWriteFailed, NoWriteFailed, SinkState}
use Rattle.gn_io.specs.declared.input.InputFault.{InputFault}
use Rattle.gn_io.specs.declared.input.InputFault.TheVariants as input
use Rattle.gn_io.proofs.StreamLemmas.{leaves_after, leaves_all, rest_cut}
use Rattle.gn_rules.specs.declared.receipt.Step.{Step}
use Rattle.gn_text.specs.declared.fault.CaptureFault.{CaptureFault}
use Rattle.gn_text.specs.declared.fault.CaptureRefusal.TheVariants as refusal
use Rattle.gn_capture.specs.Histories.{map_result, steps_left}
use Rattle.gn_capture.proofs.StepsLemmas.{one_known}
use Rattle.gn_replay.specs.declared.fault.ReplayFault.{ReplayFault}
use Rattle.gn_replay.specs.declared.fault.ReplayFault.TheVariants as fault
use Rattle.gn_replay.specs.Faults.{of_stream}
use Rattle.gn_stream.specs.declared.entries.Due.{Due}
use Rattle.gn_stream.specs.declared.entries.Due.TheVariants as due
use Rattle.gn_stream.specs.declared.entries.Entry.{Entry}
use Rattle.gn_stream.specs.declared.entries.Entry.TheVariants as entry
use Rattle.gn_stream.specs.declared.fault.StreamFault.{StreamFault}
use Rattle.gn_stream.specs.declared.fault.StreamFault.TheVariants as stream
use Rattle.gn_stream.specs.Entries.{IsEntry, IsEntryRead, IsFrame, IsNextDue, IsOver, IsUnread, due_begun, due_left, none_begun, steps_before}
use Rattle.gn_stream.specs.Left.{Left, numbered_left}
use Rattle.gn_stream.specs.Reading.{Goes, IsReadingFault, Passes, Place, left_of}
use Rattle.std.proofs.KnownBytes.{Consumes-trans}
use Rattle.gn_stream.proofs.PassLemmas.{ended_then, fault_then, gone_none, gone_then, may_before, passes_none, passes_so, passes_then}
use Rattle.gn_show.specs.declared.flight.Flight.{Flight}
use Rattle.gn_show.specs.declared.form.Form.{Form}
use Rattle.gn_show.specs.declared.showing.Showing.{Showing}
use Rattle.gn_show.specs.Kept.{Fits, Follows}
use Rattle.gn_show.specs.Shown.{begun_text, head_of, line_of, text_of}
use Rattle.gn_show.specs.Showing.{AreShown, AreShownOn, AreShownTo, AreTimed, IsLinesFault, IsNew, IsShowing, IsShowingAt, ShowsOn, WritesUnless, due_head, due_text, lines_begun, times_of}
use Rattle.gn_show.specs.Times.{Place as Stands, place_of, time_below, times_from}
use Rattle.gn_show.proofs.LinesLemmas.{fits_none, text_both, text_more}
use Rattle.gn_show.proofs.TimeLemmas.{time_same, times_said, times_skipped}

-- nothing before what there is
pub no_more : {X E : Type 0} (r : Result (List X) E) → r ≡ map_result (λ more. [] ++ more) r
no_more (Ok xs) = refl
no_more (Err e) = refl

pub none_more : {X : Type 0} (r : Option (List X)) → r ≡ option_map (λ more. [] ++ more) r
none_more (Some xs) = refl
none_more None = refl

-- some bytes more wait
leaves_add : (old new : Option (List ℕ)) (waiting all more : List ℕ) → LeavesToWrite old new waiting all → LeavesToWrite old new (waiting ++ more) (all ++ more)
leaves_add old new waiting all more h = (h.0, h.1, sym (append_assoc h.0 waiting more) ∙ ap (λ (xs : List ℕ). xs ++ more) h.2)

-- nothing is gone yet
none_at : (form : Form) (first : Option (List ℕ)) (flight : Flight) (l : Left) → Follows flight [] → IsShowingAt form first first due.Title [] 0 flight [] l l
none_at form first flight l none = record {
  gone = gone_none l;
  made = [];
  left = no_more (due_left due.Title (numbered_left l));
  begun = none_more (due_begun due.Title (numbered_left l));
  indexed = refl;
  fits = fits_none form flight none;
  timed = (refl, refl);
  leaves = leaves_all first [];
}

new_at : (form : Form) (first : Option (List ℕ)) (s : Showing) (l : Left) → IsNew s → IsShowing form first first s l l
new_at form first s l new =
    subst (λ (d : Due). IsShowingAt form first first d s.time.items s.index s.flight s.block l l) (sym new.title)
    (subst (λ (t : List ℕ). IsShowingAt form first first due.Title t s.index s.flight s.block l l) (sym new.time)
    (subst (λ (n : ℕ). IsShowingAt form first first due.Title [] n s.flight s.block l l) (sym new.index)
    (subst (λ (w : List ℕ). IsShowingAt form first first due.Title [] 0 s.flight w l l) (sym new.block)
    (none_at form first s.flight l new.flight))))

pub showing_none : (form : Form) (first : Option (List ℕ)) (s : Showing) (a : Place) → IsNew s → Passes (IsShowing form first first s) a a
showing_none form first s a new = passes_none (IsShowing form first first s) a (λ l. new_at form first s l new)

-- a place, by its parts
abbrev stands_at : ℕ → List ℕ → Stands
stands_at index time = record { index = index; time = time }

-- times of what is left, as a line is gone
timed_next : (was after : Due) (all left more : List (List ℕ)) (time : List ℕ) (made : List (Step Global)) → IsNextDue was after → left ≡ time ∷ more → AreTimed was all left made
    → AreTimed after all more made
timed_next due.Title (due.Config version) all left more time made next is timed = (ap (drop 1) (sym is ∙ timed.0), timed.1)
timed_next (due.Config version) (due.Own numbers) all left more time made next is timed = (ap (drop 1) (sym is ∙ timed.0) ∙ drop-drop 1 1 all, timed.1)
timed_next (due.Own numbers) due.Step all left more time made next is timed =
    ap (drop 1) (sym is ∙ timed.0) ∙ drop-drop 1 2 all ∙ ap (λ (steps : List (Step Global)). drop (length steps) (drop 3 all)) (sym timed.1)
timed_next due.Step due.Nothing all left more time made next is timed = tt
timed_next due.Title due.Title all left more time made next is timed = absurd next
timed_next due.Title (due.Own numbers) all left more time made next is timed = absurd next
timed_next due.Title due.Step all left more time made next is timed = absurd next
timed_next due.Title due.Nothing all left more time made next is timed = absurd next
timed_next (due.Config version) due.Title all left more time made next is timed = absurd next
timed_next (due.Config version) (due.Config other) all left more time made next is timed = absurd next
timed_next (due.Config version) due.Step all left more time made next is timed = absurd next
timed_next (due.Config version) due.Nothing all left more time made next is timed = absurd next
timed_next (due.Own numbers) due.Title all left more time made next is timed = absurd next
timed_next (due.Own numbers) (due.Config version) all left more time made next is timed = absurd next
timed_next (due.Own numbers) (due.Own others) all left more time made next is timed = absurd next
timed_next (due.Own numbers) due.Nothing all left more time made next is timed = absurd next
timed_next due.Step due.Title all left more time made next is timed = absurd next
timed_next due.Step (due.Config version) all left more time made next is timed = absurd next
timed_next due.Step (due.Own numbers) all left more time made next is timed = absurd next
timed_next due.Step due.Step all left more time made next is timed = absurd next
timed_next due.Nothing after all left more time made next is timed = absurd next

-- and what is shown of it
text_next : (form : Form) (was after : Due) (all left times : List (List ℕ)) (made : List (Step Global)) → IsNextDue was after → AreTimed was all left made
    → due_text after form times made ≡ due_text was form times made ++ due_head after form
text_next form due.Title (due.Config version) all left times made next timed = refl
text_next form (due.Config version) (due.Own numbers) all left times made next timed = refl
text_next form (due.Own numbers) due.Step all left times made next timed =
    ap (λ (steps : List (Step Global)). text_of form times steps) timed.1 ∙ append-nil (head_of form)
text_next form due.Step due.Nothing all left times made next timed = sym (append-nil (text_of form times made))
text_next form due.Title due.Title all left times made next timed = absurd next
text_next form due.Title (due.Own numbers) all left times made next timed = absurd next
text_next form due.Title due.Step all left times made next timed = absurd next
text_next form due.Title due.Nothing all left times made next timed = absurd next
text_next form (due.Config version) due.Title all left times made next timed = absurd next
text_next form (due.Config version) (due.Config other) all left times made next timed = absurd next
text_next form (due.Config version) due.Step all left times made next timed = absurd next
text_next form (due.Config version) due.Nothing all left times made next timed = absurd next
text_next form (due.Own numbers) due.Title all left times made next timed = absurd next
text_next form (due.Own numbers) (due.Config version) all left times made next timed = absurd next
text_next form (due.Own numbers) (due.Own others) all left times made next timed = absurd next
text_next form (due.Own numbers) due.Nothing all left times made next timed = absurd next
text_next form due.Step due.Title all left times made next timed = absurd next
text_next form due.Step (due.Config version) all left times made next timed = absurd next
text_next form due.Step (due.Own numbers) all left times made next timed = absurd next
text_next form due.Step due.Step all left times made next timed = absurd next
text_next form due.Nothing after all left times made next timed = absurd next

module _ (form : Form) (first last : Option (List ℕ)) (line : List ℕ) (was : Due) (time : List ℕ) (index : ℕ) (flight : Flight) (waiting : List ℕ) (old mid new : Left)
    (showing : IsShowingAt form first last was time index flight waiting old mid) where
  frame_left : (after : Due) → IsFrame Global was after (numbered_left mid) (numbered_left new)
      → due_left due.Title (numbered_left old) ≡ map_result (λ more. showing.made ++ more) (due_left after (numbered_left new))
  frame_left after frame = showing.left ∙ ap (map_result (λ more. showing.made ++ more)) frame.left

  frame_begun : (after : Due) → IsFrame Global was after (numbered_left mid) (numbered_left new)
      → due_begun due.Title (numbered_left old) ≡ option_map (λ more. showing.made ++ more) (due_begun after (numbered_left new))
  frame_begun after frame = showing.begun ∙ ap (option_map (λ more. showing.made ++ more)) frame.begun

  -- a line is skipped
  pub skip_shown : (after : Due) → IsEntry {A = Global} line entry.Skipped was after mid new → IsShowingAt form first last after (time_below time line) index flight waiting old new
  skip_shown after is = record {
    gone = gone_then old mid new showing.gone is.gone;
    made = showing.made;
    left = frame_left after is.said.1;
    begun = frame_begun after is.said.1;
    indexed = showing.indexed;
    fits = showing.fits;
    timed =
        subst (λ (d : Due). AreTimed d (times_from [] old.lines) (times_from (time_below time line) new.lines) showing.made) (sym is.said.0)
        (subst (λ (ts : List (List ℕ)). AreTimed was (times_from [] old.lines) ts showing.made) (times_skipped time line mid.lines new.lines is.lines is.skipped) showing.timed);
    leaves = subst (λ (d : Due). LeavesToWrite first last waiting (due_text d form (times_of old.lines) showing.made)) (sym is.said.0) showing.leaves;
  }

  -- a line says no step
  pub frame_shown : (after : Due) → IsEntry {A = Global} line entry.Frame was after mid new → IsShowingAt form first last after time index flight (waiting ++ due_head after form) old new
  frame_shown after is = record {
    gone = gone_then old mid new showing.gone is.gone;
    made = showing.made;
    left = frame_left after is.said.1;
    begun = frame_begun after is.said.1;
    indexed = showing.indexed;
    fits = showing.fits;
    timed =
        timed_next was after (times_from [] old.lines) (times_from time mid.lines) (times_from time new.lines) time showing.made is.said.0
        (times_said time line mid.lines new.lines is.lines is.skipped) showing.timed;
    leaves =
        subst (λ (xs : List ℕ). LeavesToWrite first last (waiting ++ due_head after form) xs)
        (sym (text_next form was after (times_from [] old.lines) (times_from time mid.lines) (times_of old.lines) showing.made is.said.0 showing.timed))
        (leaves_add first last waiting (due_text was form (times_of old.lines) showing.made) (due_head after form) showing.leaves);
  }

  -- a line says a step, where one is due
  at_step : (step : Step Global) (after : Due) (grown : List ℕ) (then : Flight) → was ≡ due.Step → after ≡ due.Step → IsEntry line (entry.Step step) was after mid new
      → AreTimed due.Step (times_from [] old.lines) (times_from time mid.lines) showing.made
      → LeavesToWrite first last waiting (text_of form (times_of old.lines) showing.made)
      → due_left due.Title (numbered_left old) ≡ map_result (λ more. showing.made ++ more) (steps_left (numbered_left mid))
      → due_begun due.Title (numbered_left old) ≡ Some (showing.made ++ steps_before (numbered_left mid).lines)
      → ((past : List (Step Global)) → Fits form flight past
      → (grown ≡ waiting ++ line_of form past (record { index = index; time = time }) step) × Fits form then (step ∷ past))
      → IsShowingAt form first last due.Step time (index + 1) then grown old new
  at_step step after grown then before next is timed leaves left begun says =
      let made = showing.made in
      let said = says (reverse made) showing.fits in
      let times = times_of old.lines in
      let here : times_from time mid.lines ≡ time ∷ times_from time new.lines = times_said time line mid.lines new.lines is.lines is.skipped in
      let stands : stands_at index time ≡ place_of times (length made) =
      ap (λ (n : ℕ). stands_at n time) showing.indexed
      ∙ time_same times (times_from time mid.lines) (length made) time timed (ap (λ (ts : List (List ℕ)). get_or ts 0 []) (sym here)) in
      record {
        gone = gone_then old mid new showing.gone is.gone;
        made = made ++ step ∷ [];
        left = left ∙ sym (one_known made (numbered_left mid) (numbered_left new) step is.said.left);
        begun =
            begun ∙ ap (λ (xs : List (Step Global)). Some (made ++ xs)) is.said.begun
            ∙ ap (λ (xs : List (Step Global)). Some xs) (sym (append_assoc made (step ∷ []) (steps_before (numbered_left new).lines)));
        indexed = omega (arith, showing.indexed, length-append made (step ∷ []));
        fits = subst (λ (past : List (Step Global)). Fits form then past) (sym (reverse-append made (step ∷ []))) said.1;
        timed =
            ap (drop 1) (sym here ∙ timed) ∙ drop-drop 1 (length made) times
            ∙ ap (λ (n : ℕ). drop n times) (omega (arith, length-append made (step ∷ [])));
        leaves =
            subst (λ (xs : List ℕ). LeavesToWrite first last grown xs) (sym (text_more form times made step))
            (subst (λ (xs : List ℕ). LeavesToWrite first last xs (text_of form times made ++ line_of form (reverse made) (place_of times (length made)) step))
            (sym (said.0 ∙ ap (λ (at : Stands). waiting ++ line_of form (reverse made) at step) stands))
            (leaves_add first last waiting (text_of form times made) (line_of form (reverse made) (place_of times (length made)) step) leaves));
      }

  pub step_shown : (step : Step Global) (after : Due) (grown : List ℕ) (then : Flight) → IsEntry line (entry.Step step) was after mid new
      → ((past : List (Step Global)) → Fits form flight past
      → (grown ≡ waiting ++ line_of form past (record { index = index; time = time }) step) × Fits form then (step ∷ past))
      → IsShowingAt form first last after time (index + 1) then grown old new
  step_shown step after grown then is says =
      subst (λ (d : Due). IsShowingAt form first last d time (index + 1) then grown old new) (sym is.said.is)
      (at_step step after grown then is.said.was is.said.is is
      (subst (λ (d : Due). AreTimed d (times_from [] old.lines) (times_from time mid.lines) showing.made) is.said.was showing.timed)
      (subst (λ (d : Due). LeavesToWrite first last waiting (due_text d form (times_of old.lines) showing.made)) is.said.was showing.leaves)
      (subst (λ (d : Due). due_left due.Title (numbered_left old) ≡ map_result (λ more. showing.made ++ more) (due_left d (numbered_left mid))) is.said.was showing.left)
      (subst (λ (d : Due). due_begun due.Title (numbered_left old) ≡ option_map (λ more. showing.made ++ more) (due_begun d (numbered_left mid))) is.said.was showing.begun)
      says)

-- so as a line is shown
pub skipped_on : (form : Form) (line : List ℕ) (now : Due) (time below : List ℕ) (index : ℕ) (flight : Flight) (waiting : List ℕ) → below ≡ time_below time line
    → (was : Due) (first last : Option (List ℕ)) (old mid new : Left) → IsShowingAt form first last was time index flight waiting old mid → IsEntry {A = Global} line entry.Skipped was now mid new
    → IsShowingAt form first last now below index flight waiting old new
skipped_on form line now time below index flight waiting same was first last old mid new showing is =
    subst (λ (t : List ℕ). IsShowingAt form first last now t index flight waiting old new) (sym same)
    (skip_shown form first last line was time index flight waiting old mid new showing now is)

pub framed_on : (form : Form) (line : List ℕ) (now : Due) (time : List ℕ) (index : ℕ) (flight : Flight) (waiting grown : List ℕ) → grown ≡ waiting ++ due_head now form
    → (was : Due) (first last : Option (List ℕ)) (old mid new : Left) → IsShowingAt form first last was time index flight waiting old mid → IsEntry {A = Global} line entry.Frame was now mid new
    → IsShowingAt form first last now time index flight grown old new
framed_on form line now time index flight waiting grown same was first last old mid new showing is =
    subst (λ (xs : List ℕ). IsShowingAt form first last now time index flight xs old new) (sym same)
    (frame_shown form first last line was time index flight waiting old mid new showing now is)

pub stepped_on : (form : Form) (line : List ℕ) (step : Step Global) (before after : Showing)
    → ((past : List (Step Global)) → Fits form before.flight past
    → (after.block ≡ before.block ++ line_of form past (stands_at before.index before.time.items) step) × Fits form after.flight (step ∷ past))
    → after.index ≡ before.index + 1 → after.due ≡ before.due → after.time.items ≡ before.time.items → ShowsOn form line (entry.Step step) before after
stepped_on form line step before after says counted same timed was first last old mid new showing is =
    subst (λ (d : Due). IsShowingAt form first last d after.time.items after.index after.flight after.block old new) (sym same)
    (subst (λ (t : List ℕ). IsShowingAt form first last before.due t after.index after.flight after.block old new) (sym timed)
    (subst (λ (n : ℕ). IsShowingAt form first last before.due before.time.items n after.flight after.block old new) (sym counted)
    (step_shown form first last line was before.time.items before.index before.flight before.block old mid new showing step before.due after.block after.flight is says)))

-- what is shown so far is a beginning of what is shown before the first fault
begun_with : (form : Form) (times : List (List ℕ)) (now : Due) (made : List (Step Global)) (some : Option (List (Step Global))) (left : Left)
    → some ≡ option_map (λ more. made ++ more) (due_begun now (numbered_left left)) → (rest : List ℕ) × (due_text now form times made ++ rest ≡ begun_text form times some)
begun_with form times due.Title made some left is = (begun_text form times some, refl)
begun_with form times (due.Config version) made some left is = (begun_text form times some, refl)
begun_with form times (due.Own numbers) made some left is = (begun_text form times some, refl)
begun_with form times due.Step made some left is =
    (_, sym (text_both form times made (steps_before (numbered_left left).lines)) ∙ ap (begun_text form times) (sym is))
begun_with form times due.Nothing made some left is =
    ([], append-nil (text_of form times made) ∙ ap (text_of form times) (sym (append-nil made)) ∙ ap (begun_text form times) (sym is))

-- all of it, where the next line has a fault
begun_all : (form : Form) (times : List (List ℕ)) (now : Due) (made : List (Step Global)) (some : Option (List (Step Global)))
    → some ≡ option_map (λ more. made ++ more) (none_begun now) → due_text now form times made ≡ begun_text form times some
begun_all form times due.Title made some is = ap (begun_text form times) (sym is)
begun_all form times (due.Config version) made some is = ap (begun_text form times) (sym is)
begun_all form times (due.Own numbers) made some is = ap (begun_text form times) (sym is)
begun_all form times due.Step made some is = ap (text_of form times) (sym (append-nil made)) ∙ ap (begun_text form times) (sym is)
begun_all form times due.Nothing made some is = ap (text_of form times) (sym (append-nil made)) ∙ ap (begun_text form times) (sym is)

module _ (form : Form) (first last : Option (List ℕ)) (s : Showing) where
  waits_at : (l m : Left) → IsShowing form first last s l m → WaitsPart first last s.block (lines_begun form l)
  waits_at l m showing =
      let more = begun_with form (times_of l.lines) s.due showing.made (due_begun due.Title (numbered_left l)) m showing.begun in
      (more.0, subst (λ (xs : List ℕ). LeavesToWrite first last (s.block ++ more.0) xs) more.1 (leaves_add first last s.block (due_text s.due form (times_of l.lines) showing.made) more.0 showing.leaves))

  -- it stopped there
  pub shown_on : (a b c : Place) → Passes (IsShowing form first last s) a b → Goes b c → AreShownOn form first last s.block a c
  shown_on a b c passes then = record {
    goes = record {
      bytes = passes.bytes ++ then.bytes;
      given = record {
        told =
            then.given.told ∙ ap (λ (xs : List ℕ). xs ++ then.bytes) passes.given.told ∙ append_assoc a.source.told passes.bytes then.bytes;
        rest = Consumes-trans a.source.rest b.source.rest c.source.rest passes.bytes then.bytes passes.given.rest then.given.rest;
      };
      ended = ended_then a b c passes.bytes then.bytes passes.ended then.ended;
    };
    part = λ more may.
        subst (λ (xs : List ℕ). WaitsPart first last s.block (lines_begun form (left_of a.reading xs))) (sym (append_assoc passes.bytes then.bytes more))
        (waits_at (left_of a.reading (passes.bytes ++ (then.bytes ++ more))) (left_of b.reading (then.bytes ++ more))
        (passes.holds (then.bytes ++ more) (may_before b c then.bytes more then.ended may)));
  }

  -- so far
  pub shown_far : (a b : Place) → Passes (IsShowing form first last s) a b → AreShownOn form first last s.block a b
  shown_far a b passes = record {
    goes = record { bytes = passes.bytes; given = record { told = passes.given.told; rest = passes.given.rest }; ended = passes.ended };
    part = λ more may. waits_at (left_of a.reading (passes.bytes ++ more)) (left_of b.reading more) (passes.holds more may);
  }

  -- what a line says is shown
  pub shown_then : (was : Due) (before : Showing) (line : List ℕ) (said : Entry Global) (a b c : Place) → ShowsOn form line said before s
      → Passes (IsShowingAt form first last was before.time.items before.index before.flight before.block) a b → Passes (IsEntry line said was before.due) b c
      → Passes (IsShowing form first last s) a c
  shown_then was before line said a b c on =
      passes_then (IsShowingAt form first last was before.time.items before.index before.flight before.block) (IsEntry line said was before.due) (IsShowing form first last s) a b c
      (λ l m n showing is. on was first last l m n showing is)

  -- of what waited some was written
  pub shown_written : (newest : Option (List ℕ)) (waiting : List ℕ) (a b : Place) → LeavesToWrite last newest waiting s.block → Passes (IsShowing form first last s) a b
      → Passes (IsShowingAt form first newest s.due s.time.items s.index s.flight waiting) a b
  shown_written newest waiting a b leaves =
      passes_so (IsShowing form first last s) (IsShowingAt form first newest s.due s.time.items s.index s.flight waiting) a b
      (λ l m showing.
      let text = due_text s.due form (times_of l.lines) showing.made in
      record {
        gone = showing.gone;
        made = showing.made;
        left = showing.left;
        begun = showing.begun;
        indexed = showing.indexed;
        fits = showing.fits;
        timed = showing.timed;
        leaves =
            subst (λ (xs : List ℕ). LeavesToWrite first newest xs text) (append-nil waiting)
            (leaves_after first last newest s.block [] waiting text (subst (λ (xs : List ℕ). LeavesToWrite first last xs text) (sym (append-nil s.block)) showing.leaves) leaves);
      })

  -- a write failed
  pub shown_cut : (newest : Option (List ℕ)) (a b : Place) → AppendsPart last newest s.block → Passes (IsShowing form first last s) a b → AreShownOn form first newest [] a b
  shown_cut newest a b part passes =
      let far = shown_far a b passes in
      record {
        goes = far.goes;
        part = λ more may. rest_cut first last newest s.block (lines_begun form (left_of a.reading (far.goes.bytes ++ more))) (far.part more may) part;
      }

  -- no line is left
  pub shown_all : (a b c : Place) → Passes (IsShowing form first last s) a b → Passes (IsOver Global s.due) b c → Passes (AreShown form first last s.block) a c
  shown_all a b c =
      passes_then (IsShowing form first last s) (IsOver Global s.due) (AreShown form first last s.block) a b c
      (λ l m n showing is. record {
        gone = gone_then l m n showing.gone is.gone;
        none = is.none;
        steps = showing.made;
        said =
            showing.left ∙ ap (map_result (λ more. showing.made ++ more)) is.left
            ∙ ap (λ (xs : List (Step Global)). Ok xs) (append-nil showing.made);
        leaves = subst (λ (d : Due). LeavesToWrite first last s.block (due_text d form (times_of l.lines) showing.made)) is.over showing.leaves;
      })

  -- the next line has a fault
  pub shown_to : (fault : CaptureFault) (a b c : Place) → Passes (IsShowing form first last s) a b → Passes (λ left _. IsUnread Global s.due (refusal.Fault fault) (numbered_left left)) b c
      → Passes (λ left _. AreShownTo form fault first last s.block left) a c
  shown_to fault a b c =
      passes_then (IsShowing form first last s) (λ left _. IsUnread Global s.due (refusal.Fault fault) (numbered_left left)) (λ left _. AreShownTo form fault first last s.block left) a b c
      (λ l m n showing is. record {
        refused = showing.left ∙ ap (map_result (λ more. showing.made ++ more)) is.0;
        leaves =
            subst (λ (xs : List ℕ). LeavesToWrite first last s.block xs)
            (begun_all form (times_of l.lines) s.due showing.made (due_begun due.Title (numbered_left l)) (showing.begun ∙ ap (option_map (λ more. showing.made ++ more)) is.1))
            showing.leaves;
      })

  -- or the input failed
  pub shown_failed : (fault : InputFault) (a b c : Place) → Passes (IsShowing form first last s) a b → IsReadingFault fault b c → IsReadingFault fault a c
  shown_failed fault a b c passes failed = fault_then (IsShowing form first last s) a b c fault (λ l m showing. showing.gone) passes failed

-- the next line has a greater number
pub entry_grows : (line : List ℕ) (said : Entry Global) (was after : Due) (a b : Place) → Passes (IsEntry line said was after) a b → b.reading.next ≡ a.reading.next + 1
entry_grows line said was after a b passes =
    let is = passes.holds [] (λ ended. refl) in
    omega (arith, is.gone.first, ap length is.lines, ap length is.gone.lines, length-append is.gone.gone (left_of b.reading []).lines)

-- lines couldn't be shown to their end
pub lines_failed : (form : Form) (s0 s1 : SinkState) (s : Showing) (after : Due) (a b c : Place) (r : Result (Unit {0}) ReplayFault) (why : StreamFault) → IsErrAnd r (λ e. e ≡ of_stream why)
    → Passes (IsShowing form s0.written s1.written s) a b → IsEntryRead {A = Global} s.due after (Err why) b c → IfErr r (λ f. IsLinesFault form f s0 s1 s.block a c)
lines_failed form s0 s1 s after a b c (Ok x) why is passes read = absurd is
lines_failed form s0 s1 s after a b c (Err e) why is passes read = subst (λ (f : ReplayFault). IsLinesFault form f s0 s1 s.block a c) (sym is) (by why read)
  where
    by : (w : StreamFault) → IsEntryRead {A = Global} s.due after (Err w) b c → IsLinesFault form (of_stream w) s0 s1 s.block a c
    by (stream.Text refusal.NoMemory) read = tt
    by (stream.Text (refusal.Fault at)) read = shown_to form s0.written s1.written s at a b c passes read
    by (stream.Input input.Read) read = shown_failed form s0.written s1.written s input.Read a b c passes read
    by (stream.Input input.TooLarge) read = shown_failed form s0.written s1.written s input.TooLarge a b c passes read
    by (stream.Input input.NoMemory) read = tt

-- memory ran out
pub lines_unshown : (form : Form) (s0 s1 : SinkState) (waiting : List ℕ) (a b : Place) (r : Result (Unit {0}) ReplayFault) → IsErrAnd r (λ e. e ≡ fault.NoMemory)
    → IfErr r (λ f. IsLinesFault form f s0 s1 waiting a b)
lines_unshown form s0 s1 waiting a b (Ok x) is = absurd is
lines_unshown form s0 s1 waiting a b (Err e) is = subst (λ (f : ReplayFault). IsLinesFault form f s0 s1 waiting a b) (sym is) tt

-- a write failed
pub lines_unwritten : (form : Form) (s0 s1 : SinkState) (waiting : List ℕ) (a b : Place) (r : Result (Unit {0}) ReplayFault) → IsErrAnd r (λ e. e ≡ fault.Write) → HasWriteFailed s0 s1
    → IfErr r (λ f. IsLinesFault form f s0 s1 waiting a b)
lines_unwritten form s0 s1 waiting a b (Ok x) is failed = absurd is
lines_unwritten form s0 s1 waiting a b (Err e) is failed = subst (λ (f : ReplayFault). IsLinesFault form f s0 s1 waiting a b) (sym is) failed

pub writes_lost : (s0 s1 : SinkState) (r : Result (Unit {0}) ReplayFault) → IsErrAnd r (λ e. e ≡ fault.Write) → WritesUnless r s0 s1
writes_lost s0 s1 (Ok x) is = absurd is
writes_lost s0 s1 (Err e) is = subst (λ (f : ReplayFault). WritesUnless (Err f) s0 s1) (sym is) tt

pub writes_kept : (s0 s1 : SinkState) (r : Result (Unit {0}) ReplayFault) → NoWriteFailed s0 s1 → WritesUnless r s0 s1
writes_kept s0 s1 (Ok x) unfailed = unfailed
writes_kept s0 s1 (Err fault.Read) unfailed = unfailed
writes_kept s0 s1 (Err fault.TooLarge) unfailed = unfailed
writes_kept s0 s1 (Err (fault.Capture at)) unfailed = unfailed
writes_kept s0 s1 (Err fault.Write) unfailed = tt
writes_kept s0 s1 (Err fault.NoMemory) unfailed = unfailed
