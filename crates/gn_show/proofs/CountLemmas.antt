-- Steps of a history that are counted one by one.
use Rattle.std.proofs.Common.{◌≡◌, ◌<◌, ◌+◌, ◌++◌, ◌∙◌, ℕ, List, [], ◌∷◌, length, reverse, refl, sym, ap, subst, arith, append-nil, length-append, IfErr, IfOk, IfSome, Option, Some, None, Result, Ok, Err}
use Rattle.std.proofs.lemmas.List.{length-reverse, reverse-append}
use Rattle.std.proofs.KnownBytes.{Keeps-refl}
use Rattle.std.specs.Io.KnownBytes.{Appends}
use Rattle.std.specs.Prelude.{IsOk, OnOk}
use Rattle.std.specs.Result.{IsErrAnd}
use Rattle.std.specs.declared.alloc.Global.{Global}
use Rattle.gn_io.specs.Parts.{AppendsPart}
use Rattle.gn_io.specs.Streams.{NoReadFailed, SourceState, Streams, text_between}
use Rattle.gn_io.specs.declared.input.InputFault.TheVariants as input
use Rattle.gn_rules.specs.declared.config.Config.{Config}
use Rattle.gn_rules.specs.declared.config.Own.{Own as Servent}
use Rattle.gn_rules.specs.declared.limits.Numbers.{Numbers}
use Rattle.gn_rules.specs.declared.receipt.Step.{Step}
use Rattle.gn_rules.specs.declared.statistics.Stats.{Stats}
use Rattle.gn_rules.specs.Statistics.{count_in, counter_of, no_stats, raised, stats_of}
use Rattle.gn_rules.proofs.CounterLemmas.{count_few, stats_more}
use Rattle.gn_text.specs.declared.fault.CaptureFault.{CaptureFault}
use Rattle.gn_text.specs.declared.fault.CaptureRefusal.{CaptureRefusal}
use Rattle.gn_text.specs.declared.fault.CaptureRefusal.TheVariants as refusal
use Rattle.gn_numbers.specs.declared.titles.Text.TheVariants.{History}
use Rattle.gn_text.specs.Faults.{IsRefused}
use Rattle.gn_text.specs.Header.{header_of}
use Rattle.gn_text.specs.Parsed.{Numbered}
use Rattle.gn_text.specs.Settings.{settings_of}
use Rattle.gn_text.specs.Statistics.{stats_text}
use Rattle.gn_capture.specs.Histories.{IsNextOf, history_of, map_result, steps_from, steps_left}
use Rattle.gn_capture.proofs.StepsLemmas.{known, one_known}
use Rattle.gn_replay.specs.declared.fault.ReplayFault.{ReplayFault}
use Rattle.gn_replay.specs.declared.fault.ReplayFault.TheVariants as fault
use Rattle.gn_replay.specs.Faults.{IsAuditOn, IsTextFault, of_stream}
use Rattle.gn_replay.proofs.StreamLemmas.{IsRead, read_refused}
use Rattle.gn_stream.specs.declared.ending.Ending.TheVariants.{Own}
use Rattle.gn_stream.specs.declared.fault.StreamFault.{StreamFault}
use Rattle.gn_stream.specs.declared.fault.StreamFault.TheVariants as stream
use Rattle.gn_stream.specs.Left.{AreGone, AreShort, IsTooLong, Left, all_lines, numbered_left}
use Rattle.gn_stream.specs.Reading.{IsReadOf, Passes, Place, fresh}
use Rattle.gn_stream.specs.Steps.{AreRefused, AreSaid, AreUnsaid, IsEnding, IsHeaderRead, IsStep, history_left}
use Rattle.gn_stream.proofs.NumberedLemmas.{after_same}
use Rattle.gn_stream.proofs.PassLemmas.{gone_none, gone_then, passes_none, passes_so, passes_then, read_then, whole_text}
use Rattle.gn_show.specs.declared.form.View.TheVariants.{Stats as Counters}
use Rattle.gn_show.specs.Shown.{AppendsShown, HasShowStopped, IsShowOn, IsShown}
use Rattle.gn_show.specs.Showing.{AreCounted, AreCountedOf, IsCounted, IsCountedOf, IsCountedWhole}

-- nothing stands before what is left
pub none_known : (left : Numbered) → known {A = Global} [] left ≡ steps_left left
none_known left = same (steps_left left) where
  same : {X E : Type 0} (r : Result (List X) E) → map_result (λ more. [] ++ more) r ≡ r
  same (Ok xs) = refl
  same (Err e) = refl

-- where nothing is left, all is known
pub all_known : (made : List (Step Global)) (left : Numbered) (all : Result (List (Step Global)) CaptureFault) → known made left ≡ all → steps_left {A = Global} left ≡ Ok [] → all ≡ Ok (made ++ [])
all_known made left all is none = sym is ∙ ap (map_result (λ more. made ++ more)) none

-- steps stand before what is left, with it they are all, and these are their counters
pub record IsCounting (stats : Stats) (index : ℕ) (left : Numbered) (all : Result (List (Step Global)) CaptureFault) : Type 0 where
  pub made : List (Step Global)
  pub known : known made left ≡ all
  pub indexed : index ≡ length made
  pub counted : stats ≡ stats_of (reverse made)

pub counting_none : (left : Numbered) → IsCounting no_stats 0 left (steps_left left)
counting_none left = record { made = []; known = none_known left; indexed = refl; counted = refl }

pub counting_more : (before after : Stats) (index : ℕ) (old new : Numbered) (all : Result (List (Step Global)) CaptureFault) (step : Step Global)
    → IsCounting before index old all → IsNextOf (Ok (Some step)) (steps_left old) (steps_left new) → index + 1 < 4294967296
    → (count_in (counter_of step.reply) before + 1 < 4294967296 → after ≡ raised (counter_of step.reply) before)
    → IsCounting after (index + 1) new all
counting_more before after index old new all step counting next few more =
    let made = counting.made in
    let within : count_in (counter_of step.reply) before + 1 < 4294967296 =
    omega (arith, count_few (reverse made) (counter_of step.reply), ap (count_in (counter_of step.reply)) counting.counted, length-reverse made, counting.indexed, few) in
    record {
      made = made ++ step ∷ [];
      known = one_known made old new step next ∙ counting.known;
      indexed = omega (arith, counting.indexed, length-append made (step ∷ []));
      counted =
          more within ∙ ap (raised (counter_of step.reply)) counting.counted ∙ sym (stats_more step (reverse made))
          ∙ ap stats_of (sym (reverse-append made (step ∷ [])));
    }

-- steps were counted as they were read
pub record Counts (stats : Stats) (index : ℕ) (old new : Left) : Type 0 where
  pub gone : AreGone old new
  pub so_far : IsCounting stats index (numbered_left new) (steps_left (numbered_left old))

pub counts_none : (stats : Stats) (a : Place) → stats ≡ no_stats → Passes (Counts stats 0) a a
counts_none stats a none =
    passes_none (Counts stats 0) a
    (λ l. record { gone = gone_none l; so_far = subst (λ (s : Stats). IsCounting s 0 (numbered_left l) (steps_left (numbered_left l))) (sym none) (counting_none (numbered_left l)) })

pub counts_more : (before after : Stats) (index number : ℕ) (line : List ℕ) (step : Step Global) (a b c : Place) → index + 1 < 4294967296
    → (count_in (counter_of step.reply) before + 1 < 4294967296 → after ≡ raised (counter_of step.reply) before)
    → Passes (Counts before index) a b → Passes (IsStep line number step) b c → Passes (Counts after (index + 1)) a c
counts_more before after index number line step a b c few more =
    passes_then (Counts before index) (IsStep line number step) (Counts after (index + 1)) a b c
    (λ l m n counts is. record {
      gone = gone_then l m n counts.gone is.gone;
      so_far = counting_more before after index (numbered_left m) (numbered_left n) (steps_left (numbered_left l)) step counts.so_far is.says few more;
    })

pub counts_all : (stats : Stats) (index : ℕ) (a b c : Place) → Passes (Counts stats index) a b → Passes (IsEnding Global steps_left) b c → Passes (AreCounted stats) a c
counts_all stats index a b c =
    passes_then (Counts stats index) (IsEnding Global steps_left) (AreCounted stats) a b c
    (λ l m n counts is. record {
      gone = gone_then l m n counts.gone is.gone;
      none = is.none;
      steps = counts.so_far.made;
      said =
          all_known counts.so_far.made (numbered_left m) (steps_left (numbered_left l)) counts.so_far.known is.said ∙ ap Ok (append-nil counts.so_far.made);
      counted = counts.so_far.counted;
    })

-- what is left is at fault
pub counts_refused : {T : Type 0} (stats : Stats) (index : ℕ) (Then : T → Left → Left → Type 0) (a b c : Place) (r : Result Stats StreamFault) (fault : StreamFault) → IsErrAnd r (λ e. e ≡ fault)
    → Passes (Counts stats index) a b → IsReadOf Then (AreRefused Global) (Err fault) b c → AreCountedOf r a c
counts_refused {T} stats index Then a b c r fault is first =
    read_refused {T = T} Global Then AreCounted a b c r fault is
    (passes_so (Counts stats index) (IsRead Global) a b (λ l m h. record { gone = h.gone; rest = (h.so_far.made, h.so_far.known) }) first)

-- memory ran out at a step
pub counts_unread : (stats : Stats) (index number : ℕ) (line : List ℕ) (step : Step Global) (a b c : Place) (r : Result Stats StreamFault) → IsErrAnd r (λ e. e ≡ stream.Text refusal.NoMemory)
    → Passes (Counts stats index) a b → Passes (IsStep line number step) b c → AreCountedOf r a c
counts_unread stats index number line step a b c (Ok x) is first second = absurd is
counts_unread stats index number line step a b c (Err e) is first second =
    subst (λ (f : StreamFault). AreCountedOf (Err f) a c) (sym is)
    (passes_then (Counts stats index) (IsStep line number step) (λ left _. AreRefused Global refusal.NoMemory left) a b c (λ l m n counts step. tt) first second)

-- the header, and then the steps
unsaid : (why : CaptureRefusal) (left : Left) → AreUnsaid (header_of History) why left → IsRefused why (history_left {A = Global} left)
unsaid refusal.NoMemory left refused = tt
unsaid (refusal.Fault fault) left refused = rw refused refl

pub header_unread : (r : Result Stats StreamFault) (fault : StreamFault) (a b : Place) → IsErrAnd r (λ e. e ≡ fault) → IsHeaderRead (Err fault) a b → IsCountedOf r a b
header_unread (Ok x) fault a b is read = absurd is
header_unread (Err e) fault a b is read = subst (λ (f : StreamFault). IsCountedOf (Err f) a b) (sym is) (by fault read)
  where
    by : (f : StreamFault) → IsHeaderRead (Err f) a b → IsCountedOf (Err f) a b
    by (stream.Input f) read = read
    by (stream.Text why) read =
        passes_so (λ left _. AreUnsaid (header_of History) why left) (λ left _. IsRefused why (history_left {A = Global} left)) a b (λ l m. unsaid why l) read

pub whole_counted : (r : Result Stats StreamFault) (config : Config) (a b c : Place) → IsHeaderRead (Ok config) a b → AreCountedOf r b c → IsCountedOf r a c
whole_counted r config a b c first read =
    read_then (AreSaid (header_of History) config) AreCounted (AreRefused Global) IsCountedWhole (λ why left. IsRefused why (history_left {A = Global} left)) a b c r (λ l m said. said.gone)
    (λ stats l m n said counted. record {
      gone = gone_then l m n said.gone counted.gone;
      none = counted.none;
      settings = settings_of config;
      steps = counted.steps;
      said = said_after l m said ∙ ap (map_result (λ (steps : List (Step Global)). (settings_of config, steps))) counted.said;
      counted = counted.counted;
    })
    refused_after first read
  where
    said_after : (l m : Left) → AreSaid (header_of History) config l m
        → history_left {A = Global} l ≡ map_result (λ (steps : List (Step Global)). (settings_of config, steps)) (steps_left (numbered_left m))
    said_after l m said =
        rw said.said (ap (λ (n : ℕ). map_result (λ (steps : List (Step Global)). (settings_of config, steps)) (steps_from n (numbered_left m).lines)) (after_same l m said.gone))

    refused_after : (why : CaptureRefusal) (l m : Left) → AreSaid (header_of History) config l m → AreRefused Global why m → IsRefused why (history_left {A = Global} l)
    refused_after refusal.NoMemory l m said refused = tt
    refused_after (refusal.Fault fault) l m said refused = said_after l m said ∙ ap (map_result (λ (steps : List (Step Global)). (settings_of config, steps))) refused

-- so of the text that a source gave
text_counted : (stats : Stats) (text : List ℕ) (rest : Left) → IsCountedWhole stats (all_lines text) rest → AreShort (all_lines text).lines × IsCounted stats text
text_counted stats text rest counted =
    let whole : (all_lines text).lines ≡ counted.gone.gone =
    counted.gone.lines ∙ ap (λ (xs : List (List ℕ)). counted.gone.gone ++ xs) counted.none ∙ append-nil counted.gone.gone in
    (subst AreShort (sym whole) counted.gone.short, (counted.settings, counted.steps, counted.said, counted.counted))

pub source_counted : (r : Result Stats StreamFault) (a b : Place) → a.reading ≡ fresh → IsCountedOf r a b
    → IfOk r (λ stats. IfSome (text_between a.source b.source) (λ text. AreShort (all_lines text).lines × IsCounted stats text))
source_counted (Err fault) a b new found = tt
source_counted (Ok stats) a b new found =
    whole_text (IsCountedWhole stats) (λ text. AreShort (all_lines text).lines × IsCounted stats text) a b Own new (text_counted stats) found

pub source_unfailed : (r : Result Stats StreamFault) (a b : Place) → IsCountedOf r a b → OnOk r (NoReadFailed a.source b.source)
source_unfailed (Err fault) a b found = tt
source_unfailed (Ok stats) a b found = found.given.unfailed

pub source_fault : (r : Result Stats StreamFault) (a b : Place) → a.reading ≡ fresh → IsCountedOf r a b
    → IfErr r (λ fault. IsTextFault (of_stream fault) all_lines (history_of {A = Global}) a.source b.source)
source_fault (Ok stats) a b new found = tt
source_fault (Err (stream.Input input.Read)) a b new found = found
source_fault (Err (stream.Input input.TooLarge)) a b new found =
    whole_text (λ left _. IsTooLong left) (λ text. IsTooLong (all_lines text)) a b Own new (λ text rest long. long) found
source_fault (Err (stream.Input input.NoMemory)) a b new found = tt
source_fault (Err (stream.Text refusal.NoMemory)) a b new found = tt
source_fault (Err (stream.Text (refusal.Fault fault))) a b new found =
    whole_text (λ left _. history_left {A = Global} left ≡ Err fault) (λ text. history_of {A = Global} text ≡ Err fault) a b Own new (λ text rest is. is) found

-- what is answered of counters is what an audit answers
pub of_audit : (s : Streams) (r : Result (Unit {0}) ReplayFault) → IsAuditOn all_lines (history_of {A = Global}) s r → IsShowOn Counters s r
of_audit s r on = record { short = on.short; valid = on.valid; unfailed = on.unfailed; fault = on.fault }

-- a text that was counted is a history
pub counted_valid : (stats : Stats) (rest : Option (List ℕ)) → IfSome rest (λ text. AreShort (all_lines text).lines × IsCounted stats text)
    → IfSome rest (λ text. AreShort (all_lines text).lines × IsOk (history_of {A = Global} text))
counted_valid stats None counted = tt
counted_valid stats (Some text) counted =
    (counted.0, subst (λ (r : Result ((Numbers × Servent) × List (Step Global)) CaptureFault). IsOk r) (sym counted.1.2) refl)

-- and its counters are shown
stats_is : (stats : Stats) (text line : List ℕ) → line ≡ stats_text stats → IsCounted stats text → IsShown Counters text line
stats_is stats text line is counted = record { settings = counted.0; steps = counted.1; parsed = counted.2; shown = is ∙ ap stats_text counted.3 }

pub stats_shown : (stats : Stats) (line : List ℕ) (rest old new : Option (List ℕ)) → line ≡ stats_text stats → IfSome rest (λ text. AreShort (all_lines text).lines × IsCounted stats text)
    → Appends old new line → IfSome rest (λ text. AppendsShown Counters text old new)
stats_shown stats line None old new is counted appends = tt
stats_shown stats line (Some text) old new is counted appends = (line, stats_is stats text line is counted.1, appends)

pub stats_cut : (stats : Stats) (line : List ℕ) (r : Result (Unit {0}) ReplayFault) (rest old new : Option (List ℕ)) → IsErrAnd r (λ e. e ≡ fault.Write) → line ≡ stats_text stats
    → IfSome rest (λ text. AreShort (all_lines text).lines × IsCounted stats text) → AppendsPart old new line → IfErr r (λ f. HasShowStopped Counters f rest old new)
stats_cut stats line (Ok x) rest old new why is counted part = tt
stats_cut stats line (Err e) rest old new why is counted part =
    subst (λ (f : ReplayFault). HasShowStopped Counters f rest old new) (sym why) (by rest counted)
  where
    by : (some : Option (List ℕ)) → IfSome some (λ text. AreShort (all_lines text).lines × IsCounted stats text) → HasShowStopped Counters fault.Write some old new
    by None counted = tt
    by (Some text) counted = (line, stats_is stats text line is counted.1, part)

-- nothing was written before
pub stats_none : (r : Result (Unit {0}) ReplayFault) (f : ReplayFault) (source new : SourceState) (rest written : Option (List ℕ)) → IsErrAnd r (λ e. e ≡ f)
    → IsTextFault f all_lines (history_of {A = Global}) source new → IfErr r (λ e. HasShowStopped Counters e rest written written)
stats_none (Ok x) f source new rest written is of_text = tt
stats_none (Err e) f source new rest written is of_text = subst (λ (g : ReplayFault). HasShowStopped Counters g rest written written) (sym is) (by f of_text)
  where
    by : (g : ReplayFault) → IsTextFault g all_lines (history_of {A = Global}) source new → HasShowStopped Counters g rest written written
    by fault.Read of_text = Keeps-refl written
    by fault.TooLarge of_text = Keeps-refl written
    by (fault.Capture at) of_text = Keeps-refl written
    by fault.Write of_text = absurd of_text
    by fault.NoMemory of_text = Keeps-refl written
