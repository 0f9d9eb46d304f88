-- What is shown of a whole text.
use Rattle.std.proofs.Common.{◌≡◌, ◌++◌, ◌∙◌, inl, inr, ℕ, List, [], length, drop, refl, sym, ap, subst, true, true≢false, append-nil, IfErr, IfSome, Option, Some, None, Result, Ok, Err}
use Rattle.std.specs.Prelude.{IsOk, OnOk}
use Rattle.std.specs.Result.{IsErrAnd}
use Rattle.std.proofs.Math.Seq.{drop-append_seam}
use Rattle.std.specs.Io.KnownBytes.{Appends, Consumes, IsAtEnd}
use Rattle.std.specs.declared.alloc.Global.{Global}
use Rattle.gn_io.specs.Counts.{Rises}
use Rattle.gn_io.specs.Parts.{AppendsPart, LeavesToWrite, WaitsPart}
use Rattle.gn_io.specs.Streams.{HasWriteFailed, NoWriteFailed, SinkState, foreknown_or_told, streams, text_between}
use Rattle.gn_io.proofs.StreamLemmas.{leaves_rest, rest_cut, rest_part}
use Rattle.gn_rules.specs.declared.config.Own.{Own}
use Rattle.gn_rules.specs.declared.limits.Numbers.{Numbers}
use Rattle.gn_rules.specs.declared.receipt.Step.{Step}
use Rattle.gn_text.specs.declared.fault.CaptureFault.{CaptureFault}
use Rattle.gn_numbers.specs.declared.titles.Text.TheVariants.{History}
use Rattle.gn_text.specs.Faults.{◌>>=◌}
use Rattle.gn_text.specs.Header.{header_of}
use Rattle.gn_text.specs.Parsed.{line_after, parsed_of}
use Rattle.gn_capture.specs.Histories.{history_of, map_result, steps_from}
use Rattle.gn_replay.specs.declared.fault.ReplayFault.{ReplayFault}
use Rattle.gn_replay.specs.declared.fault.ReplayFault.TheVariants as fault
use Rattle.gn_stream.specs.declared.ending.Ending.TheVariants.{Own as Stands}
use Rattle.gn_stream.specs.Left.{AreShort, IsTooLong, Left, all_lines}
use Rattle.gn_stream.specs.Reading.{MayCome, Passes, Place, Reading, fresh, left_of}
use Rattle.gn_stream.proofs.PassLemmas.{whole_text}
use Rattle.gn_show.specs.declared.form.Form.{Form}
use Rattle.gn_show.specs.declared.form.View.TheVariants.{Steps}
use Rattle.gn_show.specs.Shown.{AppendsShown, HasShowStopped, IsShowFault, IsShowOn, shown_begun, text_of}
use Rattle.gn_show.specs.Showing.{AreShown, AreShownOn, AreShownTo, IsLinesFault, WritesUnless, lines_begun}
use Rattle.gn_show.specs.Times.{step_times}

-- the settings of a header, and steps
abbrev with_steps : Numbers × Own → List (Step Global) → (Numbers × Own) × List (Step Global)
with_steps settings steps = (settings, steps)

-- steps that follow a header are those of a history
parsed_by : (r : Result ((Numbers × Own) × List (ℕ × List ℕ)) CaptureFault) (after : ℕ) (steps : List (Step Global)) → (r >>= (λ header. steps_from after header.1)) ≡ Ok steps
    → (settings : Numbers × Own) × ((r >>= (λ header. map_result (with_steps header.0) (steps_from after header.1))) ≡ Ok (settings, steps))
parsed_by (Ok header) after steps is = (header.0, ap (map_result (with_steps header.0)) is)
parsed_by (Err fault) after steps is = absurd (cc)

refused_by : (r : Result ((Numbers × Own) × List (ℕ × List ℕ)) CaptureFault) (after : ℕ) (fault : CaptureFault) → (r >>= (λ header. steps_from {A = Global} after header.1)) ≡ Err fault
    → (r >>= (λ header. map_result (with_steps header.0) (steps_from after header.1))) ≡ Err fault
refused_by (Ok header) after fault is = ap (map_result (with_steps header.0)) is
refused_by (Err other) after fault is = ap (λ (x : Result (List (Step Global)) CaptureFault). x >>= (λ steps. Err fault)) is

-- what follows from what holds at Ok
pub ok_so : {T E P Q : Type 0} (r : Result T E) → (P → Q) → OnOk r P → OnOk r Q
ok_so (Ok x) so p = so p
ok_so (Err e) so p = tt

pub ok_both : {T E P Q R S : Type 0} (r : Result T E) → (P → Q → R → S) → OnOk r P → OnOk r Q → OnOk r R → OnOk r S
ok_both (Ok x) so p q r = so p q r
ok_both (Err e) so p q r = tt

-- what holds of a text that a source gave, holds so
pub some_so : {X : Type 0} (P Q : X → Type 0) (o : Option X) → ((x : X) → P x → Q x) → IfSome o P → IfSome o Q
some_so P Q None so p = tt
some_so P Q (Some x) so p = so x p

-- what is shown of the lines of a text to their end
pub record IsTextShown (form : Form) (text : List ℕ) (first last : Option (List ℕ)) (waiting : List ℕ) : Type 0 where
  pub short : AreShort (all_lines text).lines
  pub settings : Numbers × Own
  pub steps : List (Step Global)
  pub parsed : history_of text ≡ Ok (settings, steps)
  pub leaves : LeavesToWrite first last waiting (text_of form (step_times text) steps)

module _ (form : Form) (first last : Option (List ℕ)) (waiting : List ℕ) where
  lines_shown : (text : List ℕ) (rest : Left) → AreShown form first last waiting (all_lines text) rest → IsTextShown form text first last waiting
  lines_shown text rest shown =
      let whole : (all_lines text).lines ≡ shown.gone.gone =
      shown.gone.lines ∙ ap (λ (xs : List (List ℕ)). shown.gone.gone ++ xs) shown.none ∙ append-nil shown.gone.gone in
      let parsed = parsed_by (header_of History (line_after text) (parsed_of text)) (line_after text) shown.steps shown.said in
      record {
        short = subst AreShort (sym whole) shown.gone.short;
        settings = parsed.0;
        steps = shown.steps;
        parsed = parsed.1;
        leaves = shown.leaves;
      }

  source_shown : (a b : Place) → a.reading ≡ fresh → Passes (AreShown form first last waiting) a b
      → IfSome (text_between a.source b.source) (λ text. IsTextShown form text first last waiting)
  source_shown a b new shown =
      whole_text (AreShown form first last waiting) (λ text. IsTextShown form text first last waiting) a b Stands new lines_shown shown

  source_refused : (at : CaptureFault) (a b : Place) → a.reading ≡ fresh → Passes (λ left _. AreShownTo form at first last waiting left) a b
      → IfSome (text_between a.source b.source) (λ text. (history_of {A = Global} text ≡ Err at) × LeavesToWrite first last waiting (shown_begun form text))
  source_refused at a b new shown =
      whole_text (λ left _. AreShownTo form at first last waiting left)
      (λ text. (history_of {A = Global} text ≡ Err at) × LeavesToWrite first last waiting (shown_begun form text)) a b Stands new
      (λ text rest to. (refused_by (header_of History (line_after text) (parsed_of text)) (line_after text) at to.refused, to.leaves)) shown

  -- a prefix of what is shown before the first fault was written
  source_part : (a b : Place) → a.reading ≡ fresh → AreShownOn form first last waiting a b
      → IfSome (text_between a.source b.source) (λ text. WaitsPart first last waiting (shown_begun form text))
  source_part a b new shown =
      by a.source.rest b.source.rest shown.goes.given.rest (shown.goes.ended.end (λ is. absurd (true≢false (sym is ∙ ap (λ (r : Reading). r.is_ended) new))))
    where
      there : (more : List ℕ) → MayCome b.reading more → WaitsPart first last waiting (shown_begun form (shown.goes.bytes ++ more))
      there more may =
          subst (λ (r : Reading). WaitsPart first last waiting (lines_begun form (left_of r (shown.goes.bytes ++ more)))) new (shown.part more may)

      by : (old now : Option (List ℕ)) → Consumes old now shown.goes.bytes → (b.reading.is_ended ≡ true → IsAtEnd now)
          → IfSome (foreknown_or_told old (drop (length a.source.told) b.source.told)) (λ text. WaitsPart first last waiting (shown_begun form text))
      by None now taken end =
          subst (λ (text : List ℕ). WaitsPart first last waiting (shown_begun form text))
          (append-nil shown.goes.bytes ∙ sym (ap (drop (length a.source.told)) shown.goes.given.told ∙ drop-append_seam a.source.told shown.goes.bytes))
          (there [] (λ is. refl))
      by (Some all) None taken end = absurd taken
      by (Some all) (Some rest) taken end = subst (λ (text : List ℕ). WaitsPart first last waiting (shown_begun form text)) (sym taken) (there rest end)

-- a failed write after those that went well, and before them
pub fails_then : (a b c : SinkState) → NoWriteFailed a b → HasWriteFailed b c → HasWriteFailed a c
fails_then a b c unfailed (inl failed) = inl (subst (λ (n : ℕ). Rises n c.failures) unfailed.0 failed)
fails_then a b c unfailed (inr failed) = inr (subst (λ (n : ℕ). Rises n c.stalls) unfailed.1 failed)

failed_then : (a b c : SinkState) → HasWriteFailed a b → NoWriteFailed b c → HasWriteFailed a c
failed_then a b c (inl failed) unfailed = inl (subst (λ (n : ℕ). Rises a.failures n) (sym unfailed.0) failed)
failed_then a b c (inr failed) unfailed = inr (subst (λ (n : ℕ). Rises a.stalls n) (sym unfailed.1) failed)

module _ (form : Form) (a b : Place) (s0 s1 s2 : SinkState) (waiting : List ℕ) (new : a.reading ≡ fresh) where
  abbrev Given : Option (List ℕ)
  Given = text_between a.source b.source

  fault_at : (f : ReplayFault) → IsLinesFault form f s0 s1 waiting a b → NoWriteFailed s1 s2 → IsShowFault (Steps form) f (streams a.source b.source s0 s2)
  fault_at fault.Read is unfailed = is
  fault_at fault.TooLarge is unfailed = whole_text (λ left _. IsTooLong left) (λ text. IsTooLong (all_lines text)) a b Stands new (λ text rest long. long) is
  fault_at (fault.Capture at) is unfailed =
      some_so (λ text. (history_of {A = Global} text ≡ Err at) × LeavesToWrite s0.written s1.written waiting (shown_begun form text)) (λ text. history_of {A = Global} text ≡ Err at) Given
      (λ text both. both.0) (source_refused form s0.written s1.written waiting at a b new is)
  fault_at fault.Write is unfailed = failed_then s0 s1 s2 is unfailed
  fault_at fault.NoMemory is unfailed = tt

  -- what waited was written
  pub answer_done : (r : Result (Unit {0}) ReplayFault) → OnOk r (Passes (AreShown form s0.written s1.written waiting) a b) → IfErr r (λ f. IsLinesFault form f s0 s1 waiting a b)
      → WritesUnless r s0 s1 → NoWriteFailed s1 s2 → IsShowOn (Steps form) (streams a.source b.source s0 s2) r
  answer_done (Ok x) shown is writes unfailed =
      let all = source_shown form s0.written s1.written waiting a b new shown in
      record {
        short = some_so (λ text. IsTextShown form text s0.written s1.written waiting) (λ text. AreShort (all_lines text).lines) Given (λ text t. t.short) all;
        valid =
            some_so (λ text. IsTextShown form text s0.written s1.written waiting) (λ text. IsOk (history_of {A = Global} text)) Given
            (λ text t. subst (λ (x : Result ((Numbers × Own) × List (Step Global)) CaptureFault). IsOk x) (sym t.parsed) refl) all;
        unfailed = (shown.given.unfailed, (unfailed.0 ∙ writes.0, unfailed.1 ∙ writes.1));
        fault = tt;
      }
  answer_done (Err f) shown is writes unfailed = record { short = tt; valid = tt; unfailed = tt; fault = fault_at f is unfailed }

  pub written_done : (r : Result (Unit {0}) ReplayFault) → OnOk r (Passes (AreShown form s0.written s1.written waiting) a b) → Appends s1.written s2.written waiting
      → OnOk r (IfSome Given (λ text. AppendsShown (Steps form) text s0.written s2.written))
  written_done (Ok x) shown rest =
      some_so (λ text. IsTextShown form text s0.written s1.written waiting) (λ text. AppendsShown (Steps form) text s0.written s2.written) Given
      (λ text t. (
        text_of form (step_times text) t.steps,
        record { settings = t.settings; steps = t.steps; parsed = t.parsed; shown = refl },
        leaves_rest s0.written s1.written s2.written waiting (text_of form (step_times text) t.steps) t.leaves rest,
      ))
      (source_shown form s0.written s1.written waiting a b new shown)
  written_done (Err f) shown rest = tt

  part_done : AreShownOn form s0.written s1.written waiting a b → Appends s1.written s2.written waiting → IfSome Given (λ text. AppendsPart s0.written s2.written (shown_begun form text))
  part_done on rest =
      some_so (λ text. WaitsPart s0.written s1.written waiting (shown_begun form text)) (λ text. AppendsPart s0.written s2.written (shown_begun form text)) Given
      (λ text part. rest_part s0.written s1.written s2.written waiting (shown_begun form text) part rest) (source_part form s0.written s1.written waiting a b new on)

  stopped_at : (f : ReplayFault) → IsLinesFault form f s0 s1 waiting a b → AreShownOn form s0.written s1.written waiting a b → Appends s1.written s2.written waiting
      → HasShowStopped (Steps form) f Given s0.written s2.written
  stopped_at fault.Read is on rest = part_done on rest
  stopped_at fault.TooLarge is on rest = part_done on rest
  stopped_at (fault.Capture at) is on rest =
      some_so (λ text. (history_of {A = Global} text ≡ Err at) × LeavesToWrite s0.written s1.written waiting (shown_begun form text)) (λ text. Appends s0.written s2.written (shown_begun form text)) Given
      (λ text both. leaves_rest s0.written s1.written s2.written waiting (shown_begun form text) both.1 rest) (source_refused form s0.written s1.written waiting at a b new is)
  stopped_at fault.Write is on rest = part_done on rest
  stopped_at fault.NoMemory is on rest = part_done on rest

  pub stopped_done : (r : Result (Unit {0}) ReplayFault) → IfErr r (λ f. IsLinesFault form f s0 s1 waiting a b) → AreShownOn form s0.written s1.written waiting a b → Appends s1.written s2.written waiting
      → IfErr r (λ f. HasShowStopped (Steps form) f Given s0.written s2.written)
  stopped_done (Ok x) is on rest = tt
  stopped_done (Err f) is on rest = stopped_at f is on rest

  writes_before : (r : Result (Unit {0}) ReplayFault) → (r ≡ Err fault.Write → ⊥) → WritesUnless r s0 s1 → NoWriteFailed s0 s1
  writes_before (Ok x) other writes = writes
  writes_before (Err fault.Read) other writes = writes
  writes_before (Err fault.TooLarge) other writes = writes
  writes_before (Err (fault.Capture at)) other writes = writes
  writes_before (Err fault.Write) other writes = absurd (other refl)
  writes_before (Err fault.NoMemory) other writes = writes

  -- the last write failed
  pub answer_cut : (r shown : Result (Unit {0}) ReplayFault) → IsErrAnd r (λ e. e ≡ fault.Write) → (shown ≡ Err fault.Write → ⊥) → WritesUnless shown s0 s1 → HasWriteFailed s1 s2
      → IsShowOn (Steps form) (streams a.source b.source s0 s2) r
  answer_cut (Ok x) shown is other writes failed = absurd is
  answer_cut (Err e) shown is other writes failed = record {
    short = tt;
    valid = tt;
    unfailed = tt;
    fault =
        subst (λ (f : ReplayFault). IsShowFault (Steps form) f (streams a.source b.source s0 s2)) (sym is)
        (fails_then s0 s1 s2 (writes_before shown other writes) failed);
  }

  pub stopped_cut : (r : Result (Unit {0}) ReplayFault) → IsErrAnd r (λ e. e ≡ fault.Write) → AreShownOn form s0.written s1.written waiting a b → AppendsPart s1.written s2.written waiting
      → IfErr r (λ f. HasShowStopped (Steps form) f Given s0.written s2.written)
  stopped_cut (Ok x) is on part = tt
  stopped_cut (Err e) is on part =
      subst (λ (f : ReplayFault). HasShowStopped (Steps form) f Given s0.written s2.written) (sym is)
      (some_so (λ text. WaitsPart s0.written s1.written waiting (shown_begun form text)) (λ text. AppendsPart s0.written s2.written (shown_begun form text)) Given
      (λ text waits. rest_cut s0.written s1.written s2.written waiting (shown_begun form text) waits part) (source_part form s0.written s1.written waiting a b new on))

  -- a write failed before
  pub answer_early : (r : Result (Unit {0}) ReplayFault) → r ≡ Err fault.Write → IfErr r (λ f. IsLinesFault form f s0 s1 waiting a b)
      → IsShowOn (Steps form) (streams a.source b.source s0 s1) r
  answer_early r is of_lines =
      subst (λ (x : Result (Unit {0}) ReplayFault). IsShowOn (Steps form) (streams a.source b.source s0 s1) x) (sym is)
      (record { short = tt; valid = tt; unfailed = tt; fault = subst (λ (x : Result (Unit {0}) ReplayFault). IfErr x (λ f. IsLinesFault form f s0 s1 waiting a b)) is of_lines })

  pub stopped_early : (r : Result (Unit {0}) ReplayFault) → r ≡ Err fault.Write → AreShownOn form s0.written s1.written waiting a b
      → IfErr r (λ f. HasShowStopped (Steps form) f Given s0.written s1.written)
  stopped_early r is on =
      subst (λ (x : Result (Unit {0}) ReplayFault). IfErr x (λ f. HasShowStopped (Steps form) f Given s0.written s1.written)) (sym is)
      (some_so (λ text. WaitsPart s0.written s1.written waiting (shown_begun form text)) (λ text. AppendsPart s0.written s1.written (shown_begun form text)) Given
      (λ text waits. (waiting ++ waits.0, waits.1)) (source_part form s0.written s1.written waiting a b new on))

  pub written_early : (r : Result (Unit {0}) ReplayFault) → r ≡ Err fault.Write → OnOk r (IfSome Given (λ text. AppendsShown (Steps form) text s0.written s1.written))
  written_early r is =
      subst (λ (x : Result (Unit {0}) ReplayFault). OnOk x (IfSome Given (λ text. AppendsShown (Steps form) text s0.written s1.written))) (sym is) tt
