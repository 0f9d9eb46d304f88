-- A capture that was read and played, by the form of what is printed.
use Rattle.std.proofs.Common.{◌≡◌, ◌≤◌, ◌++◌, ℕ, List, [], length, Option, Some, None, IfSome, IfErr, OnOk, Result, Ok, Err, refl, sym, subst, append-nil, inl}
use Rattle.std.specs.Result.{IsErrAnd}
use Rattle.std.proofs.KnownBytes.{Keeps-refl}
use Rattle.gn_io.specs.Input.{input_limit}
use Rattle.gn_io.specs.Parts.{AppendsPart}
use Rattle.gn_io.specs.Streams.{SinkState}
use Rattle.gn_io.specs.declared.input.InputFault.{InputFault}
use Rattle.gn_io.specs.declared.input.InputFault.TheVariants as input
use Rattle.gn_capture.specs.declared.capture.Capture.{Capture}
use Rattle.gn_capture.specs.Captures.{capture_of, capture_seen}
use Rattle.gn_rules.specs.declared.receipt.Step.{Step}
use Rattle.gn_text.specs.Header.{header_text}
use Rattle.gn_numbers.specs.declared.titles.Text.TheVariants.{History}
use Rattle.gn_replay.specs.declared.fault.ReplayFault.{ReplayFault}
use Rattle.gn_replay.specs.declared.fault.ReplayFault.TheVariants as fault
use Rattle.gn_replay.specs.declared.form.Form.{Form}
use Rattle.gn_replay.specs.declared.form.Form.TheVariants.{Steps, Whole}
use Rattle.gn_replay.specs.Faults.{of_input}
use Rattle.gn_replay.specs.Playing.{said}
use Rattle.gn_replay.specs.Printed.{AppendsPrinted, HasPrintedStopped, begun_of, ending_of}
use Rattle.gn_replay.specs.ReplayText.{capture_plays}
use Rattle.gn_replay.specs.Runs.{HasPrinted, IsPlayFault}
use Rattle.gn_replay.proofs.ReplayLemmas.{history_stopped, history_written, replayed, stopped}
use Rattle.gn_replay.proofs.RunLemmas.{run_alone}

-- what is printed of a capture was written
pub printed_written : {A : Type 0} (form : Form) (text : List ℕ) (capture : Capture A) (past : List (Step A)) (count : ℕ) (old new : Option (List ℕ)) → capture_of text ≡ Ok (capture_seen capture)
    → HasPrinted form (begun_of form capture.config) (capture_plays capture.config capture.lines.items) (ending_of form) past count old new → AppendsPrinted A form text old new
printed_written Whole text capture past count old new read run =
    replayed text capture past count old new read (run_alone [] (capture_plays capture.config capture.lines.items) [] past count old new refl refl run)
printed_written Steps text capture past count old new read run =
    history_written text capture (header_text History capture.config) past count old new read refl run

-- or only a prefix of it
pub printed_stopped : {A T : Type 0} (form : Form) (r : Result T ReplayFault) (f : ReplayFault) (text : List ℕ) (capture : Capture A) (sink sink_new : SinkState) (old new : Option (List ℕ)) → length text ≤ input_limit
    → IsErrAnd r (λ e. e ≡ f) → IsPlayFault f sink sink_new → capture_of text ≡ Ok (capture_seen capture)
    → AppendsPart old new (begun_of form capture.config ++ said form (capture_plays capture.config capture.lines.items) ++ ending_of form)
    → IfErr r (λ e. HasPrintedStopped A form e (Some text) old new)
printed_stopped Whole r f text capture sink sink_new old new short is cause read part =
    stopped r f text capture sink sink_new old new short is cause read
    (subst (λ (bytes : List ℕ). AppendsPart old new bytes) (append-nil (capture_plays capture.config capture.lines.items).text) part)
printed_stopped Steps r f text capture sink sink_new old new short is cause read part =
    history_stopped r f text capture (header_text History capture.config) sink sink_new old new short is cause read refl part

-- an input that wasn't read leaves what was written
pub unread_stopped : {T : Type 0} (A : Type 0) (form : Form) (r : Result T ReplayFault) (f : InputFault) (rest written : Option (List ℕ)) → IsErrAnd r (λ e. e ≡ of_input f)
    → IfErr r (λ e. HasPrintedStopped A form e rest written written)
unread_stopped A form (Ok x) f rest written is = tt
unread_stopped A form (Err e) f rest written is = subst (λ (e : ReplayFault). HasPrintedStopped A form e rest written written) (sym is) (by form f rest)
  where
    by : (form : Form) (f : InputFault) (rest : Option (List ℕ)) → HasPrintedStopped A form (of_input f) rest written written
    by Whole input.Read rest = Keeps-refl written
    by Whole input.TooLarge rest = Keeps-refl written
    by Whole input.NoMemory None = tt
    by Whole input.NoMemory (Some bytes) = inl (Keeps-refl written)
    by Steps input.Read rest = Keeps-refl written
    by Steps input.TooLarge rest = Keeps-refl written
    by Steps input.NoMemory None = tt
    by Steps input.NoMemory (Some bytes) = inl (Keeps-refl written)

-- where a text is the input, so far as that is known, so is what stopped
pub input_stopped : {T : Type 0} (A : Type 0) (form : Form) (r : Result T ReplayFault) (text : List ℕ) (rest old new : Option (List ℕ)) → IfSome rest (λ bytes. text ≡ bytes)
    → IfErr r (λ e. HasPrintedStopped A form e (Some text) old new) → IfErr r (λ e. HasPrintedStopped A form e rest old new)
input_stopped A form (Ok x) text rest old new is so = tt
input_stopped A form (Err e) text (Some bytes) old new is so = subst (λ (z : List ℕ). HasPrintedStopped A form e (Some z) old new) is so
input_stopped A form (Err e) text None old new is so = by form e so
  where
    by : (form : Form) (f : ReplayFault) → HasPrintedStopped A form f (Some text) old new → HasPrintedStopped A form f None old new
    by Whole fault.Read so = so
    by Whole fault.TooLarge so = so
    by Whole (fault.Capture c) so = so
    by Whole fault.Write so = tt
    by Whole fault.NoMemory so = tt
    by Steps fault.Read so = so
    by Steps fault.TooLarge so = so
    by Steps (fault.Capture c) so = so
    by Steps fault.Write so = tt
    by Steps fault.NoMemory so = tt

-- so is what was written
pub input_written : {T E : Type 0} (A : Type 0) (form : Form) (r : Result T E) (text : List ℕ) (rest old new : Option (List ℕ)) → IfSome rest (λ bytes. text ≡ bytes)
    → OnOk r (AppendsPrinted A form text old new) → OnOk r (IfSome rest (λ bytes. AppendsPrinted A form bytes old new))
input_written A form (Err e) text rest old new is so = tt
input_written A form (Ok x) text None old new is so = tt
input_written A form (Ok x) text (Some bytes) old new is so = subst (λ (z : List ℕ). AppendsPrinted A form z old new) is so
