-- A capture that was read, and played.
use Rattle.std.proofs.Common.{◌≡◌, ◌≤◌, ◌∙◌, ℕ, List, ◌++◌, codes, length, reverse, Option, Some, None, IfSome, IsOk, IfErr, Result, Ok, Err, refl, sym, ap, subst, arith, inr}
use Rattle.std.proofs.lemmas.List.{length-reverse}
use Rattle.std.specs.Io.KnownBytes.{Appends}
use Rattle.std.specs.Result.{IsErrAnd}
use Rattle.gn_text.specs.declared.fault.CaptureFault.{CaptureFault}
use Rattle.gn_io.specs.Input.{input_limit}
use Rattle.gn_io.specs.Parts.{AppendsPart}
use Rattle.gn_io.specs.Streams.{SinkState, SourceState, streams, text_between}
use Rattle.gn_replay.specs.declared.fault.ReplayFault.{ReplayFault}
use Rattle.gn_replay.specs.declared.fault.ReplayFault.TheVariants as fault
use Rattle.gn_replay.specs.Faults.{IsReplayFault, input_of}
use Rattle.gn_rules.specs.declared.receipt.Step.{Step}
use Rattle.gn_capture.specs.declared.capture.Capture.{Capture}
use Rattle.gn_capture.specs.Captures.{Parsed, capture_of, capture_seen}
use Rattle.gn_capture.specs.Histories.{history_text}
use Rattle.gn_replay.specs.ReplayHistory.{AppendsHistory, AppendsHistoryPart, HasHistoryStopped, IsHistoryOf, IsHistoryText}
use Rattle.gn_replay.specs.declared.replays.Exit.{Exit}
use Rattle.gn_replay.specs.ReplayText.{IsReplay, IsReplayOf, capture_plays}
use Rattle.gn_replay.specs.Replays.{AppendsReplay, AppendsReplayPart, HasStopped, IsCounted}
use Rattle.gn_replay.specs.Runs.{HasPrinted, HasRun, IsPlayFault}
use Rattle.gn_replay.specs.Playing.{refused_more}
use Rattle.gn_replay.specs.declared.form.Form.TheVariants.{Steps}
use Rattle.gn_text.specs.Header.{header_text}
use Rattle.gn_numbers.specs.declared.titles.Text.TheVariants.{History}
use Rattle.gn_replay.proofs.LinesLemmas.{lines_are}

-- what replay does with a capture that was read
pub is_replay : {A : Type 0} (text : List ℕ) (capture : Capture A) → capture_of text ≡ Ok (capture_seen capture)
    → IsReplay A text (capture_plays capture.config capture.lines.items)
is_replay {A} text capture read =
    subst (λ (parsed : Result (Parsed A) CaptureFault). IsReplayOf A parsed (capture_plays capture.config capture.lines.items)) (sym read) (capture.config, refl, refl)

-- a capture that was read is valid
pub is_valid : {A : Type 0} (text : List ℕ) (capture : Capture A) → capture_of text ≡ Ok (capture_seen capture) → IsOk (capture_of {A = A} text)
is_valid {A} text capture read = subst (λ (parsed : Result (Parsed A) CaptureFault). IsOk parsed) (sym read) refl

-- what was done with a capture that was read
module _ {A : Type 0} (text : List ℕ) (capture : Capture A) where
  -- its replay text was written
  pub replayed : (past : List (Step A)) (count : ℕ) (old new : Option (List ℕ)) → capture_of text ≡ Ok (capture_seen capture)
      → HasRun (capture_plays capture.config capture.lines.items) past count old new → AppendsReplay A text old new
  replayed past count old new read run =
      let played = capture_plays capture.config capture.lines.items in
      (played.text, (played, is_replay text capture read, refl), run.text)

  -- its steps and refusals were counted
  pub counted : (exit : Exit) (steps : List (Step A)) (count : ℕ) → capture_of text ≡ Ok (capture_seen capture)
      → reverse steps ≡ (capture_plays capture.config capture.lines.items).past → count ≡ refused_more (capture_plays capture.config capture.lines.items).refusals 0
      → exit.steps ≡ length steps → exit.refusals ≡ count → IsCounted A text exit
  counted exit steps count read past refusals all refused =
      (capture_plays capture.config capture.lines.items, is_replay text capture read, all ∙ sym (length-reverse steps) ∙ ap length past, refused ∙ refusals)

  -- its history is that of the router that played it
  is_history : capture_of text ≡ Ok (capture_seen capture) → IsHistoryText A text (history_text capture.config (reverse (capture_plays capture.config capture.lines.items).past))
  is_history read =
      subst (λ (parsed : Result (Parsed A) CaptureFault). IsHistoryOf A parsed (history_text capture.config (reverse (capture_plays capture.config capture.lines.items).past))) (sym read)
      (capture.config, refl, refl)

  -- the lines of its steps after a heading
  history_is : (heading : List ℕ) → heading ≡ header_text History capture.config
      → heading ++ (capture_plays capture.config capture.lines.items).lines ++ codes "end\n" ≡ history_text capture.config (reverse (capture_plays capture.config capture.lines.items).past)
  history_is heading is =
      ap (λ h. h ++ (capture_plays capture.config capture.lines.items).lines ++ codes "end\n") is
      ∙ ap (λ lines. header_text History capture.config ++ lines ++ codes "end\n") (lines_are capture.config capture.lines.items)

  -- that was written
  pub history_written : (heading : List ℕ) (past : List (Step A)) (count : ℕ) (old new : Option (List ℕ)) → capture_of text ≡ Ok (capture_seen capture) → heading ≡ header_text History capture.config
      → HasPrinted Steps heading (capture_plays capture.config capture.lines.items) (codes "end\n") past count old new → AppendsHistory A text old new
  history_written heading past count old new read is run =
      (history_text capture.config (reverse (capture_plays capture.config capture.lines.items).past), is_history read, subst (λ (bytes : List ℕ). Appends old new bytes) (history_is heading is) run.text)

  -- or only a prefix of it
  history_cut : (heading : List ℕ) (old new : Option (List ℕ)) → capture_of text ≡ Ok (capture_seen capture) → heading ≡ header_text History capture.config
      → AppendsPart old new (heading ++ (capture_plays capture.config capture.lines.items).lines ++ codes "end\n") → AppendsHistoryPart A text old new
  history_cut heading old new read is part =
      (history_text capture.config (reverse (capture_plays capture.config capture.lines.items).past), is_history read, subst (λ (bytes : List ℕ). AppendsPart old new bytes) (history_is heading is) part)

-- where that stopped, a prefix of the history was written
history_stopped_so : (A : Type 0) (f : ReplayFault) (text : List ℕ) (sink sink_new : SinkState) (old new : Option (List ℕ)) → length text ≤ input_limit → IsPlayFault f sink sink_new
    → AppendsHistoryPart A text old new → HasHistoryStopped A f (Some text) old new
history_stopped_so A fault.Write text sink sink_new old new short is part = part
history_stopped_so A fault.NoMemory text sink sink_new old new short is part = inr (short, part)
history_stopped_so A fault.Read text sink sink_new old new short is part = absurd is
history_stopped_so A fault.TooLarge text sink sink_new old new short is part = absurd is
history_stopped_so A (fault.Capture c) text sink sink_new old new short is part = absurd is

pub history_stopped : {A T : Type 0} (r : Result T ReplayFault) (f : ReplayFault) (text : List ℕ) (capture : Capture A) (heading : List ℕ) (sink sink_new : SinkState) (old new : Option (List ℕ))
    → length text ≤ input_limit → IsErrAnd r (λ e. e ≡ f) → IsPlayFault f sink sink_new → capture_of text ≡ Ok (capture_seen capture) → heading ≡ header_text History capture.config
    → AppendsPart old new (heading ++ (capture_plays capture.config capture.lines.items).lines ++ codes "end\n") → IfErr r (λ e. HasHistoryStopped A e (Some text) old new)
history_stopped (Ok x) f text capture heading sink sink_new old new short same cause read is part = tt
history_stopped {A} (Err e) f text capture heading sink sink_new old new short same cause read is part =
    subst (λ (e : ReplayFault). HasHistoryStopped A e (Some text) old new) (sym same) (history_stopped_so A f text sink sink_new old new short cause (history_cut text capture heading old new read is part))

-- where playing it stopped, a prefix of its replay text was written
stopped_so : {A : Type 0} (f : ReplayFault) (text : List ℕ) (sink sink_new : SinkState) (old new : Option (List ℕ)) → length text ≤ input_limit → IsPlayFault f sink sink_new
    → AppendsReplayPart A text old new → HasStopped A f (Some text) old new
stopped_so fault.Write text sink sink_new old new short is part = part
stopped_so fault.NoMemory text sink sink_new old new short is part = inr (short, part)
stopped_so fault.Read text sink sink_new old new short is part = absurd is
stopped_so fault.TooLarge text sink sink_new old new short is part = absurd is
stopped_so (fault.Capture c) text sink sink_new old new short is part = absurd is

pub stopped : {A T : Type 0} (r : Result T ReplayFault) (f : ReplayFault) (text : List ℕ) (capture : Capture A) (sink sink_new : SinkState) (old new : Option (List ℕ)) → length text ≤ input_limit
    → IsErrAnd r (λ e. e ≡ f) → IsPlayFault f sink sink_new
    → capture_of text ≡ Ok (capture_seen capture) → AppendsPart old new (capture_plays capture.config capture.lines.items).text
    → IfErr r (λ e. HasStopped A e (Some text) old new)
stopped (Ok x) f text capture sink sink_new old new short is cause read part = tt
stopped {A} (Err e) f text capture sink sink_new old new short is cause read part =
    let played = capture_plays capture.config capture.lines.items in
    let all : AppendsReplayPart A text old new = (played.text, (played, is_replay text capture read, refl), part) in
    subst (λ (e : ReplayFault). HasStopped A e (Some text) old new) (sym is) (stopped_so f text sink sink_new old new short cause all)

-- what is known of a text is known of the input that it is
of_input_that : (Says : List ℕ → Type 0) (text : List ℕ) (rest : Option (List ℕ)) → IfSome rest (λ bytes. text ≡ bytes)
    → (length text ≤ input_limit) × Says text → IfSome rest (λ bytes. (length bytes ≤ input_limit) × Says bytes)
of_input_that Says text None is h = tt
of_input_that Says text (Some bytes) is h = subst (λ (z : List ℕ). (length z ≤ input_limit) × Says z) is h

-- what was done with a text was done with the input that it is
pub fault_of_input : {X : Type 0} (f : ReplayFault) (parsed : List ℕ → Result X CaptureFault) (text : List ℕ) (source source_new : SourceState) (sink sink_new : SinkState)
    → IfSome (text_between source source_new) (λ bytes. text ≡ bytes) → IsReplayFault f parsed (streams (input_of text) (input_of text) sink sink_new)
    → IsReplayFault f parsed (streams source source_new sink sink_new)
fault_of_input fault.Read parsed text source source_new sink sink_new is h = absurd (grind (arith, h))
fault_of_input fault.TooLarge parsed text source source_new sink sink_new is h = absurd (grind (arith, h.given))
fault_of_input (fault.Capture c) parsed text source source_new sink sink_new is h = of_input_that (λ z. parsed z ≡ Err c) text (text_between source source_new) is h
fault_of_input fault.Write parsed text source source_new sink sink_new is h = (of_input_that (λ z. IsOk (parsed z)) text (text_between source source_new) is h.0, h.1)
fault_of_input fault.NoMemory parsed text source source_new sink sink_new is h = tt
