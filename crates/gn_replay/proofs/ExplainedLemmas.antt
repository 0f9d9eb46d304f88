-- What explains a verdict, and that it was written.
use Rattle.std.proofs.Common.{◌≡◌, ◌∙◌, ℕ, List, [], ◌++◌, append-nil, length, Option, Some, None, IfSome, IfErr, Result, Ok, Err, refl, sym, ap, subst}
use Rattle.std.specs.Prelude.{IsOk}
use Rattle.std.specs.Io.KnownBytes.{Appends}
use Rattle.std.specs.Result.{IsErrAnd}
use Rattle.std.proofs.KnownBytes.{Keeps-refl}
use Rattle.gn_rules.specs.declared.config.Config.{Config}
use Rattle.gn_rules.specs.declared.config.Own.{Own}
use Rattle.gn_rules.specs.declared.limits.Numbers.{Numbers}
use Rattle.gn_rules.specs.declared.legality.Legality.{Legality}
use Rattle.gn_rules.specs.declared.legality.Legality.TheVariants as verdict
use Rattle.gn_rules.specs.declared.receipt.Step.{Step}
use Rattle.gn_rules.specs.declared.refusal.Refusal.{Refusal}
use Rattle.gn_rules.specs.declared.reply.Reply.{Reply}
use Rattle.gn_rules.specs.Legality.{IsVerdict}
use Rattle.gn_text.specs.declared.fault.CaptureFault.{CaptureFault}
use Rattle.gn_text.specs.Lines.{fields_of}
use Rattle.gn_text.specs.Parsed.{parsed_of}
use Rattle.gn_text.specs.Settings.{settings_of}
use Rattle.gn_capture.specs.Histories.{history_of}
use Rattle.gn_capture.specs.Steps.{step_parsed}
use Rattle.gn_io.specs.Parts.{AppendsPart}
use Rattle.gn_io.specs.Streams.{HasWriteFailed, NoneFailed, SourceState, Streams, text_of}
use Rattle.gn_stream.specs.Left.{AreShort, Left, all_lines, finished_lines}
use Rattle.gn_replay.specs.Audits.{AppendsCutVerdict, AppendsCutVerdictPart, AppendsVerdict, AppendsVerdictPart, HasCutStopped, HasStopped, IsCutFound, cut_history_of, cut_verdict, verdict_text}
use Rattle.gn_replay.specs.Explained.{AppendsExplained, AppendsExplainedPart, Explains, HasExplainedStopped, IsAuditExplained, IsExplained, explanation_text, step_line_at}
use Rattle.gn_replay.specs.Faults.{IsAuditFault, IsAuditOn, IsTextFault}
use Rattle.gn_replay.specs.Judgements.{IsAnsweredAt, IsJudged, IsTrueOf, StandsAt, legality_of}
use Rattle.gn_replay.specs.declared.judged.CutJudged.{CutJudged}
use Rattle.gn_replay.specs.declared.fault.ReplayFault.{ReplayFault}
use Rattle.gn_replay.specs.declared.fault.ReplayFault.TheVariants.{Read, TooLarge, Capture, Write, NoMemory}
use Rattle.gn_replay.specs.declared.judgement.Judgement.{Judgement}
use Rattle.gn_replay.specs.declared.judgement.Judgement.TheVariants.{Legal, WrongAt}
use Rattle.gn_replay.specs.declared.judgement.WrongStep.{WrongStep}
use Rattle.gn_replay.proofs.StepLines.{step_stands}
use Rattle.gn_replay.proofs.VerdictLemmas.{audited, cut_audited, same_line, verdict_of}

-- what explains a judgement: nothing of a legal history, the lines of the wrong step of another
explained_by : {A : Type 0} (s : Config) (steps : List (Step A)) (text : List ℕ) (i : ℕ) (rules : Result (Reply A) Refusal) (line : ℕ × List ℕ) (explanation : List ℕ)
    → history_of text ≡ Ok (settings_of s, steps) → IsAnsweredAt s steps i rules → step_line_at text i ≡ Some line → explanation ≡ explanation_text line rules
    → IsExplained s steps text i explanation
explained_by s steps text i rules line explanation parsed answered stands explained =
    let found = step_stands text (settings_of s) steps i answered.step parsed answered.at in
    let same : found.0 ≡ line = cc in
    record {
      step = answered.step;
      line = line;
      at = answered.at;
      stands = stands;
      says = subst (λ (x : ℕ × List ℕ). step_parsed (fields_of x.1) ≡ Some answered.step) same found.2;
      explained = explained ∙ ap (explanation_text line) (sym answered.answered);
    }

-- nothing explains a legal history
pub explained_legal : {A : Type 0} (text : List ℕ) (judgement : Judgement A) (count : ℕ) (legality : Legality) (line lines : List ℕ) → IsJudged A text judgement count
    → legality ≡ legality_of judgement → line ≡ verdict_text legality count → lines ≡ line → judgement ≡ Legal → IsAuditExplained A text legality lines
explained_legal text judgement count legality line lines judged found printed same is =
    let legality_is : legality ≡ verdict.Legal = found ∙ ap legality_of is in
    let line_of = audited text judgement count legality line judged found printed in
    record {
      settings = line_of.settings;
      steps = line_of.steps;
      explanation = [];
      parsed = line_of.parsed;
      agrees = line_of.agrees;
      explains = subst (λ (x : Legality). Explains line_of.settings line_of.steps text x []) (sym legality_is) refl;
      printed = same ∙ line_of.printed ∙ sym (append-nil (verdict_text legality (length line_of.steps)));
    }

-- the lines of a wrong step explain a history that isn't legal
pub explained_wrong : {A : Type 0} (text : List ℕ) (judgement : Judgement A) (count : ℕ) (legality : Legality) (line lines : List ℕ) (wrong : WrongStep A) → IsJudged A text judgement count
    → legality ≡ legality_of judgement → line ≡ verdict_text legality count → judgement ≡ WrongAt wrong
    → lines ≡ line ++ explanation_text (wrong.number, wrong.line.items) wrong.rules → IsAuditExplained A text legality lines
explained_wrong text judgement count legality line lines wrong judged found printed is explained =
    let legality_is : legality ≡ verdict.WrongAt wrong.index = found ∙ ap legality_of is in
    let true_of : IsTrueOf judged.settings judged.steps (WrongAt wrong) =
    subst (λ (x : Judgement _). IsTrueOf judged.settings judged.steps x) is judged.judged in
    let stands : StandsAt (parsed_of text) (WrongAt wrong) = subst (λ (x : Judgement _). StandsAt (parsed_of text) x) is judged.stands in
    let at : ℕ × List ℕ = (wrong.number, wrong.line.items) in
    let more = explained_by judged.settings judged.steps text wrong.index wrong.rules at (explanation_text at wrong.rules) judged.parsed true_of.1 stands refl in
    record {
      settings = judged.settings;
      steps = judged.steps;
      explanation = explanation_text at wrong.rules;
      parsed = judged.parsed;
      agrees = subst (λ (x : Legality). IsVerdict judged.settings judged.steps x) (sym found) (verdict_of judged.settings judged.steps judgement judged.judged);
      explains = subst (λ (x : Legality). Explains judged.settings judged.steps text x (explanation_text at wrong.rules)) (sym legality_is) more;
      printed = explained ∙ ap (λ head. head ++ explanation_text at wrong.rules) (printed ∙ same_line judgement legality count (length judged.steps) found judged.counted);
    }

-- the lines of a history that was judged, whatever its text
abbrev pub LinesFor : {A : Type 0} → Judgement A → ℕ → Legality → List ℕ → Type 0
LinesFor {A} judgement count legality lines = (text : List ℕ) → IsJudged A text judgement count → IsAuditExplained A text legality lines

-- the verdict on the input was written, with what explains it
pub explained_written : {A : Type 0} (rest : Option (List ℕ)) (judgement : Judgement A) (count : ℕ) (legality : Legality) (bytes lines : List ℕ) (old new : Option (List ℕ))
    → IfSome rest (λ text. AreShort (all_lines text).lines × IsJudged A text judgement count) → LinesFor judgement count legality lines → bytes ≡ lines → Appends old new bytes
    → IfSome rest (λ text. AppendsExplained A text legality old new)
explained_written None judgement count legality bytes lines old new judged explained same wrote = _
explained_written (Some text) judgement count legality bytes lines old new judged explained same wrote =
    (lines, explained text judged.1, subst (λ (x : List ℕ). Appends old new x) same wrote)

-- a prefix of it was written
part_of : {A : Type 0} (rest : Option (List ℕ)) (judgement : Judgement A) (count : ℕ) (legality : Legality) (bytes lines : List ℕ) (old new : Option (List ℕ))
    → IfSome rest (λ text. AreShort (all_lines text).lines × IsJudged A text judgement count) → LinesFor judgement count legality lines → bytes ≡ lines → AppendsPart old new bytes
    → IfSome rest (λ text. AppendsExplainedPart A text old new)
part_of None judgement count legality bytes lines old new judged explained same wrote = _
part_of (Some text) judgement count legality bytes lines old new judged explained same wrote =
    (legality, lines, explained text judged.1, subst (λ (x : List ℕ). AppendsPart old new x) same wrote)

pub explained_in_part : {A T : Type 0} (r : Result T ReplayFault) (rest : Option (List ℕ)) (judgement : Judgement A) (count : ℕ) (legality : Legality) (bytes lines : List ℕ) (old new : Option (List ℕ))
    → IsErrAnd r (λ e. e ≡ Write) → IfSome rest (λ text. AreShort (all_lines text).lines × IsJudged A text judgement count) → LinesFor judgement count legality lines → bytes ≡ lines
    → AppendsPart old new bytes → IfErr r (λ fault. HasExplainedStopped A fault rest old new)
explained_in_part (Ok x) rest judgement count legality bytes lines old new failed judged explained same wrote = _
explained_in_part {A} (Err e) rest judgement count legality bytes lines old new failed judged explained same wrote =
    subst (λ (fault : ReplayFault). HasExplainedStopped A fault rest old new) (sym failed) (part_of rest judgement count legality bytes lines old new judged explained same wrote)

-- a history that was judged has no fault
pub judged_valid : {A : Type 0} (rest : Option (List ℕ)) (judgement : Judgement A) (count : ℕ) → IfSome rest (λ text. AreShort (all_lines text).lines × IsJudged A text judgement count)
    → IfSome rest (λ text. AreShort (all_lines text).lines × IsOk (history_of {A = A} text))
judged_valid None judgement count judged = _
judged_valid {A} (Some text) judgement count judged =
    (judged.0, subst (λ (x : Result ((Numbers × Own) × List (Step A)) CaptureFault). IsOk x) (sym judged.1.parsed) refl)

-- the verdict on the input was written
pub verdict_written : {A : Type 0} (rest : Option (List ℕ)) (judgement : Judgement A) (count : ℕ) (legality : Legality) (bytes line : List ℕ) (old new : Option (List ℕ))
    → IfSome rest (λ text. AreShort (all_lines text).lines × IsJudged A text judgement count) → legality ≡ legality_of judgement → line ≡ verdict_text legality count → bytes ≡ line
    → Appends old new bytes → IfSome rest (λ text. AppendsVerdict A text legality old new)
verdict_written None judgement count legality bytes line old new judged is printed same wrote = _
verdict_written (Some text) judgement count legality bytes line old new judged is printed same wrote =
    (line, audited text judgement count legality line judged.1 is printed, subst (λ (x : List ℕ). Appends old new x) same wrote)

verdict_part : {A : Type 0} (rest : Option (List ℕ)) (judgement : Judgement A) (count : ℕ) (legality : Legality) (bytes line : List ℕ) (old new : Option (List ℕ))
    → IfSome rest (λ text. AreShort (all_lines text).lines × IsJudged A text judgement count) → legality ≡ legality_of judgement → line ≡ verdict_text legality count → bytes ≡ line
    → AppendsPart old new bytes → IfSome rest (λ text. AppendsVerdictPart A text old new)
verdict_part None judgement count legality bytes line old new judged is printed same wrote = _
verdict_part (Some text) judgement count legality bytes line old new judged is printed same wrote =
    (legality, line, audited text judgement count legality line judged.1 is printed, subst (λ (x : List ℕ). AppendsPart old new x) same wrote)

-- or a prefix of it
pub verdict_in_part : {A T : Type 0} (r : Result T ReplayFault) (rest : Option (List ℕ)) (judgement : Judgement A) (count : ℕ) (legality : Legality) (bytes line : List ℕ) (old new : Option (List ℕ))
    → IsErrAnd r (λ e. e ≡ Write) → IfSome rest (λ text. AreShort (all_lines text).lines × IsJudged A text judgement count) → legality ≡ legality_of judgement
    → line ≡ verdict_text legality count → bytes ≡ line → AppendsPart old new bytes → IfErr r (λ fault. HasStopped A fault rest old new)
verdict_in_part (Ok x) rest judgement count legality bytes line old new failed judged is printed same wrote = _
verdict_in_part {A} (Err e) rest judgement count legality bytes line old new failed judged is printed same wrote =
    subst (λ (fault : ReplayFault). HasStopped A fault rest old new) (sym failed) (verdict_part rest judgement count legality bytes line old new judged is printed same wrote)

-- a fault of the text is one of an audit that wrote nothing
audit_fault : {X : Type 0} (lines : List ℕ → Left) (parsed : List ℕ → Result X CaptureFault) (fault : ReplayFault) (s : Streams)
    → IsTextFault fault lines parsed s.source s.source_new → IsAuditFault fault lines parsed s
audit_fault lines parsed Read s of_text = of_text
audit_fault lines parsed TooLarge s of_text = of_text
audit_fault lines parsed (Capture f) s of_text = of_text
audit_fault lines parsed Write s of_text = absurd of_text
audit_fault lines parsed NoMemory s of_text = of_text

-- what a text's fault leaves written
pub stopped_before : {X T : Type 0} (lines : List ℕ → Left) (parsed : List ℕ → Result X CaptureFault) (A : Type 0) (r : Result T ReplayFault) (fault : ReplayFault) (source new : SourceState) (rest written : Option (List ℕ))
    → IsErrAnd r (λ e. e ≡ fault) → IsTextFault fault lines parsed source new
    → IfErr r (λ e. HasStopped A e rest written written) × IfErr r (λ e. HasExplainedStopped A e rest written written) × IfErr r (λ e. HasCutStopped A e rest written written)
stopped_before lines parsed A (Ok x) fault source new rest written is of_text = (tt, tt, tt)
stopped_before lines parsed A (Err e) fault source new rest written is of_text =
    subst (λ (f : ReplayFault). HasStopped A f rest written written × HasExplainedStopped A f rest written written × HasCutStopped A f rest written written) (sym is) (by fault of_text)
  where
    by : (f : ReplayFault) → IsTextFault f lines parsed source new
        → HasStopped A f rest written written × HasExplainedStopped A f rest written written × HasCutStopped A f rest written written
    by Read of_text = (Keeps-refl written, Keeps-refl written, Keeps-refl written)
    by TooLarge of_text = (Keeps-refl written, Keeps-refl written, Keeps-refl written)
    by (Capture f) of_text = (Keeps-refl written, Keeps-refl written, Keeps-refl written)
    by Write of_text = absurd of_text
    by NoMemory of_text = (Keeps-refl written, Keeps-refl written, Keeps-refl written)

of_some : {X : Type 0} (P Q : X → Type 0) (o : Option X) → ((x : X) → P x → Q x) → IfSome o P → IfSome o Q
of_some P Q None so p = _
of_some P Q (Some x) so p = so x p

-- a text that may have been cut has no fault where something was found of it
pub cut_valid : (A : Type 0) (rest : Option (List ℕ)) (judged : CutJudged) → IfSome rest (λ text. AreShort (finished_lines text).lines × IsCutFound A text judged)
    → IfSome rest (λ text. AreShort (finished_lines text).lines × IsOk (cut_history_of {A = A} text))
cut_valid A None judged found = _
cut_valid A (Some text) judged found =
    (found.0, subst (λ (x : Result ((Numbers × Own) × List (Step A)) CaptureFault). IsOk x) (sym found.1.parsed) refl)

module _ {X T : Type 0} (lines : List ℕ → Left) (parsed : List ℕ → Result X CaptureFault) (s : Streams) where
  -- an audit is done
  pub audit_done : (x : T) → IfSome (text_of s) (λ text. AreShort (lines text).lines × IsOk (parsed text)) → NoneFailed s → IsAuditOn {T = T} lines parsed s (Ok x)
  audit_done x valid unfailed = record {
    short = of_some (λ text. AreShort (lines text).lines × IsOk (parsed text)) (λ text. AreShort (lines text).lines) (text_of s) (λ text both. both.0) valid;
    valid = of_some (λ text. AreShort (lines text).lines × IsOk (parsed text)) (λ text. IsOk (parsed text)) (text_of s) (λ text both. both.1) valid;
    unfailed = unfailed;
    fault = tt;
  }

  -- a text was refused
  pub audit_refused : (r : Result T ReplayFault) (fault : ReplayFault) → IsErrAnd r (λ e. e ≡ fault) → IsTextFault fault lines parsed s.source s.source_new
      → IsAuditOn lines parsed s r
  audit_refused (Ok x) fault is of_text = absurd is
  audit_refused (Err e) fault is of_text = record {
    short = tt;
    valid = tt;
    unfailed = tt;
    fault = subst (λ (f : ReplayFault). IsAuditFault f lines parsed s) (sym is) (audit_fault lines parsed fault s of_text);
  }

  -- a verdict wasn't written
  pub audit_unwritten : (r : Result T ReplayFault) → IsErrAnd r (λ e. e ≡ Write) → IfSome (text_of s) (λ text. AreShort (lines text).lines × IsOk (parsed text))
      → HasWriteFailed s.sink s.sink_new → IsAuditOn lines parsed s r
  audit_unwritten (Ok x) is valid failed = absurd is
  audit_unwritten (Err e) is valid failed = record {
    short = tt;
    valid = tt;
    unfailed = tt;
    fault = subst (λ (f : ReplayFault). IsAuditFault f lines parsed s) (sym is) (valid, failed);
  }

-- the verdict on a text that may have been cut was written
pub cut_written : (A : Type 0) (rest : Option (List ℕ)) (judged : CutJudged) (bytes line : List ℕ) (old new : Option (List ℕ))
    → IfSome rest (λ text. AreShort (finished_lines text).lines × IsCutFound A text judged) → line ≡ cut_verdict judged.lacks_end judged.legality judged.steps → bytes ≡ line
    → Appends old new bytes → IfSome rest (λ text. AppendsCutVerdict A text judged.legality old new)
cut_written A None judged bytes line old new found printed same wrote = _
cut_written A (Some text) judged bytes line old new found printed same wrote =
    (line, cut_audited text judged line found.1 printed, subst (λ (x : List ℕ). Appends old new x) same wrote)

cut_part : (A : Type 0) (rest : Option (List ℕ)) (judged : CutJudged) (bytes line : List ℕ) (old new : Option (List ℕ))
    → IfSome rest (λ text. AreShort (finished_lines text).lines × IsCutFound A text judged) → line ≡ cut_verdict judged.lacks_end judged.legality judged.steps → bytes ≡ line
    → AppendsPart old new bytes → IfSome rest (λ text. AppendsCutVerdictPart A text old new)
cut_part A None judged bytes line old new found printed same wrote = _
cut_part A (Some text) judged bytes line old new found printed same wrote =
    (judged.legality, line, cut_audited text judged line found.1 printed, subst (λ (x : List ℕ). AppendsPart old new x) same wrote)

pub cut_in_part : (A : Type 0) {T : Type 0} (r : Result T ReplayFault) (rest : Option (List ℕ)) (judged : CutJudged) (bytes line : List ℕ) (old new : Option (List ℕ))
    → IsErrAnd r (λ e. e ≡ Write) → IfSome rest (λ text. AreShort (finished_lines text).lines × IsCutFound A text judged)
    → line ≡ cut_verdict judged.lacks_end judged.legality judged.steps → bytes ≡ line → AppendsPart old new bytes → IfErr r (λ fault. HasCutStopped A fault rest old new)
cut_in_part A (Ok x) rest judged bytes line old new failed found printed same wrote = _
cut_in_part A (Err e) rest judged bytes line old new failed found printed same wrote =
    subst (λ (fault : ReplayFault). HasCutStopped A fault rest old new) (sym failed) (cut_part A rest judged bytes line old new found printed same wrote)
