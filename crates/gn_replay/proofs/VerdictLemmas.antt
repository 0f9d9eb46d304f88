-- The verdict on a history.
use Rattle.std.proofs.Common.{◌≡◌, ◌∙◌, ◌+◌, ◌++◌, ℕ, suc, Bool, true, false, [], ◌∷◌, List, length, append-nil, IfErr, IfOk, IfSome, Result, Ok, Err, refl, sym, ap, subst, arith}
use Rattle.std.specs.Prelude.{OnOk}
use Rattle.std.specs.List.{slice_get}
use Rattle.std.specs.Result.{IsErrAnd}
use Rattle.gn_rules.specs.declared.config.Config.{Config}
use Rattle.gn_rules.specs.declared.legality.Legality.{Legality}
use Rattle.gn_rules.specs.declared.legality.Legality.TheVariants as verdict
use Rattle.gn_rules.specs.declared.receipt.Step.{Step}
use Rattle.gn_rules.specs.Legality.{IsVerdict}
use Rattle.gn_io.specs.Streams.{NoReadFailed, text_between}
use Rattle.gn_io.specs.declared.input.InputFault.TheVariants.{Read, TooLarge}
use Rattle.gn_io.specs.declared.input.InputFault.TheVariants as input
use Rattle.gn_text.specs.declared.fault.CaptureRefusal.{CaptureRefusal}
use Rattle.gn_text.specs.declared.fault.CaptureRefusal.TheVariants.{Fault, NoMemory}
use Rattle.gn_numbers.specs.declared.titles.Text.TheVariants.{History}
use Rattle.gn_text.specs.Faults.{IsRefused}
use Rattle.gn_text.specs.Header.{header_of}
use Rattle.gn_text.specs.Settings.{settings_of}
use Rattle.gn_capture.specs.Histories.{map_result, steps_from}
use Rattle.gn_stream.specs.declared.fault.StreamFault.{StreamFault}
use Rattle.gn_stream.specs.declared.fault.StreamFault.TheVariants.{Input, Text}
use Rattle.gn_stream.specs.declared.ending.Ending.{Ending}
use Rattle.gn_stream.specs.declared.ending.Ending.TheVariants.{Own, Due, Stands, Added}
use Rattle.gn_stream.specs.Left.{AreShort, IsTooLong, Left, all_lines, finished_lines, numbered_left}
use Rattle.gn_stream.specs.Reading.{Passes, Place, fresh, fresh_cut}
use Rattle.gn_stream.specs.Steps.{AreRefused, AreSaid, AreUnsaid, IsHeaderRead, history_left}
use Rattle.gn_stream.specs.Unfinished.{finished, is_added, is_lacking, lacks_end, lines_read, whole_lines}
use Rattle.gn_stream.proofs.NumberedLemmas.{after_same}
use Rattle.gn_stream.proofs.PassLemmas.{gone_then, lines_whole, passes_so, read_then, whole_text}
use Rattle.gn_replay.specs.Audits.{IsAudited, IsCutAudited, IsCutFound, cut_history_of, cut_verdict, verdict_text}
use Rattle.gn_replay.specs.Faults.{IsTextFault, of_stream}
use Rattle.gn_replay.specs.Judgements.{IsFoundIn, IsFoundOf, IsFoundWhole, IsFoundWholeOf, IsJudged, IsJudgedOf, IsTrueOf, StandsAt, StandsIn, legality_of}
use Rattle.gn_replay.specs.declared.judged.CutJudged.{CutJudged}
use Rattle.gn_replay.specs.declared.judgement.Judgement.{Judgement}
use Rattle.gn_replay.specs.declared.judgement.Judgement.TheVariants.{Legal, WrongAt}
use Rattle.gn_replay.proofs.StepLines.{header_more}

-- the line of a judgement says how many steps a legal history has, and nothing of another's number
pub same_line : {A : Type 0} (judgement : Judgement A) (legality : Legality) (count all : ℕ) → legality ≡ legality_of judgement → (judgement ≡ Legal → count ≡ all)
    → verdict_text legality count ≡ verdict_text legality all
same_line Legal legality count all is counted = ap (verdict_text legality) (counted refl)
same_line (WrongAt wrong) legality count all is counted = rw is refl

-- what was found of the lines of a text is true of them
pub whole_judged : {A : Type 0} (all : Left) (judgement : Judgement A) (count : ℕ) (rest : Left) → IsFoundWhole judgement count all rest
    → AreShort all.lines × IsJudgedOf A all judgement count
whole_judged {A} all judgement count rest found =
    let inside = found.found in
    let gone = gone_then all found.rest rest found.gone inside.gone in
    let whole : all.lines ≡ gone.gone = gone.lines ∙ ap (λ (xs : List (List ℕ)). gone.gone ++ xs) inside.none ∙ append-nil gone.gone in (
      subst AreShort (sym whole) gone.short,
      record {
        settings = found.settings;
        steps = inside.found.steps;
        parsed =
            rw found.header
            (ap (λ (n : ℕ). map_result (λ (steps : List (Step A)). (settings_of found.settings, steps)) (steps_from n (numbered_left found.rest).lines))
            (after_same all found.rest found.gone)
            ∙ ap (map_result (λ (steps : List (Step A)). (settings_of found.settings, steps))) inside.found.parsed);
        judged = inside.found.judged;
        counted = inside.found.counted;
        stands = stands judgement inside.stands;
      },
    )
  where
    stands : (j : Judgement A) → StandsIn (numbered_left found.rest).lines j → StandsAt (numbered_left all).lines j
    stands Legal there = tt
    stands (WrongAt wrong) there =
        let place : 3 + wrong.index ≡ suc (suc (suc wrong.index)) = omega arith in
        ap (slice_get (numbered_left all).lines) place
        ∙ header_more History (numbered_left all).after (numbered_left all).lines (settings_of found.settings, (numbered_left found.rest).lines) wrong.index found.header ∙ there

-- what a reader found of a source is true of its text
pub source_judged : {A : Type 0} (r : Result (Judgement A × ℕ) StreamFault) (a b : Place) → a.reading ≡ fresh → IsFoundWholeOf r a b
    → IfOk r (λ judged. IfSome (text_between a.source b.source) (λ text. AreShort (all_lines text).lines × IsJudged A text judged.0 judged.1))
source_judged (Err fault) a b new found = _
source_judged {A} (Ok (judgement, count)) a b new found =
    whole_text (IsFoundWhole judgement count) (λ text. AreShort (all_lines text).lines × IsJudged A text judgement count) a b Own new
    (λ text rest. whole_judged (all_lines text) judgement count rest) found

pub source_unfailed : {A : Type 0} (r : Result (Judgement A × ℕ) StreamFault) (a b : Place) → IsFoundWholeOf r a b → OnOk r (NoReadFailed a.source b.source)
source_unfailed (Err fault) a b found = _
source_unfailed (Ok judged) a b found = found.given.unfailed

-- and so is its fault
pub source_fault : {A : Type 0} (ends : Ending) (r : Result (Judgement A × ℕ) StreamFault) (a b : Place) → a.reading ≡ record fresh { ending = ends } → IsFoundWholeOf r a b
    → IfErr r (λ fault. IsTextFault (of_stream fault) (lines_whole ends) (λ text. history_left {A = A} (lines_whole ends text)) a.source b.source)
source_fault ends (Ok judged) a b new found = _
source_fault ends (Err (Input Read)) a b new found = found
source_fault ends (Err (Input TooLarge)) a b new found =
    whole_text (λ left _. IsTooLong left) (λ text. IsTooLong (lines_whole ends text)) a b ends new (λ text rest long. long) found
source_fault ends (Err (Input input.NoMemory)) a b new found = tt
source_fault ends (Err (Text NoMemory)) a b new found = tt
source_fault {A} ends (Err (Text (Fault fault))) a b new found =
    whole_text (λ left _. history_left {A = A} left ≡ Err fault) (λ text. history_left {A = A} (lines_whole ends text) ≡ Err fault) a b ends new (λ text rest is. is) found

-- a header is refused, and so is the history
unsaid : (A : Type 0) (refusal : CaptureRefusal) (left : Left) → AreUnsaid (header_of History) refusal left → IsRefused refusal (history_left {A = A} left)
unsaid A NoMemory left refused = tt
unsaid A (Fault fault) left refused = rw refused refl

pub header_refused_of : {A : Type 0} (r : Result (Judgement A × ℕ) StreamFault) (fault : StreamFault) (a b : Place) → IsErrAnd r (λ e. e ≡ fault) → IsHeaderRead (Err fault) a b → IsFoundWholeOf r a b
header_refused_of (Ok x) fault a b is read = absurd is
header_refused_of {A} (Err e) fault a b is read = subst (λ (f : StreamFault). IsFoundWholeOf {A = A} (Err f) a b) (sym is) (by fault read)
  where
    by : (f : StreamFault) → IsHeaderRead (Err f) a b → IsFoundWholeOf {A = A} (Err f) a b
    by (Input f) read = read
    by (Text refusal) read =
        passes_so (λ left _. AreUnsaid (header_of History) refusal left) (λ left _. IsRefused refusal (history_left {A = A} left)) a b (λ l m. unsaid A refusal l) read

-- memory ran out after the header
pub header_only : {A : Type 0} (r : Result (Judgement A × ℕ) StreamFault) (config : Config) (a b : Place) → IsErrAnd r (λ e. e ≡ Text NoMemory) → IsHeaderRead (Ok config) a b → IsFoundWholeOf r a b
header_only (Ok x) config a b is read = absurd is
header_only {A} (Err e) config a b is read =
    subst (λ (f : StreamFault). IsFoundWholeOf {A = A} (Err f) a b) (sym is)
    (passes_so (AreSaid (header_of History) config) (λ left _. IsRefused NoMemory (history_left {A = A} left)) a b (λ l m said. tt) read)

-- the header, and then the steps
pub whole_found : {A : Type 0} (r : Result (Judgement A × ℕ) StreamFault) (config now : Config) (a b c : Place) → now ≡ config → IsHeaderRead (Ok config) a b → IsFoundOf now r b c
    → IsFoundWholeOf r a c
whole_found {A} r config now a b c same first read =
    read_then (AreSaid (header_of History) config) (λ found. IsFoundIn now found.0 found.1) (AreRefused A) (λ found. IsFoundWhole found.0 found.1)
    (λ refusal left. IsRefused refusal (history_left {A = A} left)) a b c r (λ l m said. said.gone)
    (λ found l m n said in_rest. record {
      settings = config;
      rest = m;
      gone = said.gone;
      header = said.said;
      found = subst (λ (s : Config). IsFoundIn s found.0 found.1 m n) same in_rest;
    })
    refused_after first read
  where
    refused_after : (refusal : CaptureRefusal) (l m : Left) → AreSaid (header_of History) config l m → AreRefused A refusal m → IsRefused refusal (history_left {A = A} l)
    refused_after NoMemory l m said refused = tt
    refused_after (Fault fault) l m said refused =
        rw said.said
        (ap (λ (n : ℕ). map_result (λ (steps : List (Step A)). (settings_of config, steps)) (steps_from n (numbered_left m).lines)) (after_same l m said.gone)
        ∙ ap (map_result (λ (steps : List (Step A)). (settings_of config, steps))) refused)

-- the verdict is true where the judgement is
pub verdict_of : {A : Type 0} (s : Config) (steps : List (Step A)) (judgement : Judgement A) → IsTrueOf s steps judgement → IsVerdict s steps (legality_of judgement)
verdict_of s steps Legal judged = judged
verdict_of s steps (WrongAt wrong) judged = judged.0

-- the line of what was judged
pub audited : {A : Type 0} (text : List ℕ) (judgement : Judgement A) (count : ℕ) (legality : Legality) (line : List ℕ) → IsJudged A text judgement count
    → legality ≡ legality_of judgement → line ≡ verdict_text legality count → IsAudited A text legality line
audited text judgement count legality line judged is printed = record {
  settings = judged.settings;
  steps = judged.steps;
  parsed = judged.parsed;
  agrees = subst (λ (x : Legality). IsVerdict judged.settings judged.steps x) (sym is) (verdict_of judged.settings judged.steps judgement judged.judged);
  printed = printed ∙ same_line judgement legality count (length judged.steps) is judged.counted;
}

-- a judgement of no wrong step
legal_only : {A : Type 0} (judgement : Judgement A) → legality_of judgement ≡ verdict.Legal → judgement ≡ Legal
legal_only Legal is = refl
legal_only (WrongAt wrong) is = absurd (cc)

finished_some : (lines : List (List ℕ)) → finished lines ≡ [] → ⊥
finished_some [] none = cc
finished_some (line ∷ more) none = cc

-- `end` was added where the text lacks it, once no line is left
lacks_is : (ends : Ending) (text : List ℕ) → lines_read ends text ≡ [] → is_added ends ≡ is_lacking ends text
lacks_is Own text none = refl
lacks_is Due text none = absurd (finished_some (whole_lines text) none)
lacks_is Stands text none = refl
lacks_is Added text none = refl

-- what was found of a text that may have been cut
module _ {A : Type 0} (judgement : Judgement A) (count : ℕ) (a b : Place) (judged : CutJudged) (legality : judged.legality ≡ legality_of judgement)
    (steps : judged.steps ≡ count) (lacks : judged.lacks_end ≡ is_added b.reading.ending) where
  abbrev IsFoundCut : Left → Left → Type 0
  IsFoundCut l m = IsFoundWhole judgement count l m × (judged.lacks_end ≡ m.lacks)

  cut_true : (text : List ℕ) (rest : Left) → IsFoundCut (finished_lines text) rest → AreShort (finished_lines text).lines × IsCutFound A text judged
  cut_true text rest held =
      let whole = whole_judged (finished_lines text) judgement count rest held.0 in
      let gone = gone_then (finished_lines text) held.0.rest rest held.0.gone held.0.found.gone in (
        whole.0,
        record {
          settings = whole.1.settings;
          steps = whole.1.steps;
          parsed = whole.1.parsed;
          agrees =
              subst (λ (x : Legality). IsVerdict whole.1.settings whole.1.steps x) (sym legality) (verdict_of whole.1.settings whole.1.steps judgement whole.1.judged);
          counted = λ legal. steps ∙ whole.1.counted (legal_only judgement (sym legality ∙ legal));
          lacks = held.1 ∙ gone.lacks;
        },
      )

  pub cut_found : a.reading ≡ fresh_cut → Passes (IsFoundWhole judgement count) a b
      → IfSome (text_between a.source b.source) (λ text. AreShort (finished_lines text).lines × IsCutFound A text judged)
  cut_found new found =
      whole_text IsFoundCut (λ text. AreShort (finished_lines text).lines × IsCutFound A text judged) a b Due new cut_true
      (record {
        bytes = found.bytes;
        given = found.given;
        ended = found.ended;
        holds = λ more may.
            let whole = found.holds more may in (whole, lacks ∙ lacks_is b.reading.ending (b.reading.held ++ more) whole.found.none);
      })

same_cut : (t : Bool) (legality : Legality) (count all : ℕ) → (legality ≡ verdict.Legal → count ≡ all) → cut_verdict t legality count ≡ cut_verdict t legality all
same_cut t verdict.Legal count all same = ap (cut_verdict t verdict.Legal) (same refl)
same_cut true (verdict.WrongAt i) count all same = refl
same_cut false (verdict.WrongAt i) count all same = refl

-- the line of what was found of a text that may have been cut
pub cut_audited : {A : Type 0} (text : List ℕ) (judged : CutJudged) (line : List ℕ) → IsCutFound A text judged
    → line ≡ cut_verdict judged.lacks_end judged.legality judged.steps → IsCutAudited A text judged.legality line
cut_audited text judged line found printed = record {
  settings = found.settings;
  steps = found.steps;
  parsed = found.parsed;
  agrees = found.agrees;
  printed =
      printed ∙ ap (λ (t : Bool). cut_verdict t judged.legality judged.steps) found.lacks
      ∙ same_cut (lacks_end (whole_lines text)) judged.legality judged.steps (length found.steps) found.counted;
}

-- a text that may have been cut is at fault
pub cut_failed : (A : Type 0) {T : Type 0} (r : Result T StreamFault) (fault : StreamFault) (a b : Place) → IsErrAnd r (λ e. e ≡ fault) → a.reading ≡ fresh_cut
    → IsFoundWholeOf {A = A} (Err fault) a b → IfErr r (λ e. IsTextFault (of_stream e) finished_lines (cut_history_of {A = A}) a.source b.source)
cut_failed A (Ok x) fault a b is new failed = _
cut_failed A (Err e) fault a b is new failed =
    subst (λ (f : StreamFault). IsTextFault (of_stream f) finished_lines (cut_history_of {A = A}) a.source b.source) (sym is) (source_fault {A = A} Due (Err fault) a b new failed)
