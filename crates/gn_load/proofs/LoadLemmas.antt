-- What a load reads of its input, and why it stops.
use Rattle.std.proofs.Common.{◌≡◌, ◌↔◌, ◌≤◌, ℕ, true, false, List, [], length, map, IfErr, Option, Some, None, Result, Ok, Err, refl, sym, ap, ◌∙◌, subst, inl}
use Rattle.std.proofs.lemmas.List.{length-map, map-id}
use Rattle.std.proofs.lemmas.Option.{slice_get-map}
use Rattle.std.specs.List.{slice_get}
use Rattle.std.specs.Option.{option_map}
use Rattle.std.specs.Prelude.{IfSome, IsOk}
use Rattle.std.specs.Result.{IsErrAnd, IsOkAnd}
use Rattle.gn_io.specs.declared.input.InputFault.{InputFault}
use Rattle.gn_io.specs.declared.input.InputFault.TheVariants as input_fault
use Rattle.gn_io.specs.Input.{IsInputFault, input_limit}
use Rattle.gn_io.specs.Streams.{Streams, text_of}
use Rattle.gn_links.specs.Memory.{Memory, MemoryReading, MemoryWriting, half_read, half_written, source_of}
use Rattle.gn_rules.specs.declared.config.Config.{Config}
use Rattle.gn_rules.specs.declared.config.Own.{Own}
use Rattle.gn_rules.specs.Limits.{IsCrew}
use Rattle.gn_text.specs.declared.fault.CaptureFault.{CaptureFault}
use Rattle.gn_text.specs.declared.fault.CaptureRefusal.{CaptureRefusal}
use Rattle.gn_text.specs.declared.fault.CaptureRefusal.TheVariants as refusal
use Rattle.gn_text.specs.Faults.{◌>>=◌, IsRefused}
use Rattle.gn_rules.specs.declared.limits.Numbers.{Numbers}
use Rattle.gn_text.specs.Settings.{settings_of}
use Rattle.gn_capture.specs.declared.capture.Capture.{Capture}
use Rattle.gn_capture.specs.declared.line.Line.{Line}
use Rattle.gn_capture.specs.Captures.{Parsed, capture_of, capture_seen}
use Rattle.gn_capture.specs.Histories.{history_text, map_result}
use Rattle.gn_replay.specs.Faults.{of_input, of_refusal}
use Rattle.gn_replay.specs.declared.fault.ReplayFault.TheVariants as replay
use Rattle.gn_report.specs.declared.report.Report.{Report}
use Rattle.gn_start.specs.declared.fault.RunFault.{RunFault}
use Rattle.gn_start.specs.declared.fault.RunFault.TheVariants.{BadWorkers, Listen, Call, Link, HistoryFull, NoMemory, Stage, Audit}
use Rattle.gn_start.specs.Faults.{IsFaultOf, IsWholeFault}
use Rattle.gn_threads.specs.Headline.{AreMadeOf, Holds, LinksReadOwn}
use Rattle.gn_load.specs.declared.fault.LoadFault.{LoadFault}
use Rattle.gn_load.specs.declared.fault.LoadFault.TheVariants.{Run, Text}
use Rattle.gn_load.specs.Faults.{IsLoadFault, IsRunFault, IsRunLoadFault}
use Rattle.gn_load.specs.Links.{links_from}
use Rattle.gn_load.specs.Loads.{HasStopped, IsLoadText, load_of}
use Rattle.gn_load.proofs.ServedLemmas.{kept}
use Rattle.gn_load.proofs.UnfailedLemmas.{none_failed}

-- an error that was handed on
pub on_err : {T E : Type 0} (r : Result T E) (e : E) (P : E → Type 0) → IsErrAnd r (λ x. x ≡ e) → P e → IfErr r P
on_err (Ok x) e P is h = absurd is
on_err (Err x) e P is h = subst P (sym is) h

-- what holds of an input that was read whole holds of it as far as it is known
pub of_known : (rest : Option (List ℕ)) (input : List ℕ) (P : List ℕ → Type 0) → IfSome rest (λ bytes. input ≡ bytes) → P input → IfSome rest P
of_known None input P whole holds = tt
of_known (Some bytes) input P whole holds = subst P whole holds

-- the fault of an input that wasn't read is one of its load
pub unread : {X L : Type 0} (workers : ℕ) (fault : InputFault) (read : List ℕ → Result (X × List L) CaptureFault) (s : Streams)
    → IsInputFault fault s.source s.source_new → IsLoadFault workers (Text (of_input fault)) read s
unread workers input_fault.Read read s is = is
unread workers input_fault.TooLarge read s is = is
unread workers input_fault.NoMemory read s is = tt

-- and nothing was written
pub stopped_unread : (A : Type 0) (batch workers : ℕ) (fault : InputFault) (rest old : Option (List ℕ)) → HasStopped A batch workers (Text (of_input fault)) rest old old
stopped_unread A batch workers input_fault.Read rest old = kept old
stopped_unread A batch workers input_fault.TooLarge rest old = kept old
stopped_unread A batch workers input_fault.NoMemory rest old = inl (kept old)

-- the fault of an input that was read and has no history is one of its load
pub unloaded : {X L : Type 0} (workers : ℕ) (fault : LoadFault) (text : List ℕ) (read : List ℕ → Result (X × List L) CaptureFault) (s : Streams)
    → IfSome (text_of s) (λ bytes. text ≡ bytes) → length text ≤ input_limit → IsRunLoadFault workers fault (read text) → IsLoadFault workers fault read s
unloaded workers (Text replay.Read) text read s whole short is = absurd is
unloaded workers (Text replay.TooLarge) text read s whole short is = absurd is
unloaded workers (Text (replay.Capture fault)) text read s whole short is =
    of_known (text_of s) text (λ bytes. (length bytes ≤ input_limit) × (read bytes ≡ Err fault)) whole (short, is)
unloaded workers (Text replay.Write) text read s whole short is = absurd is
unloaded workers (Text replay.NoMemory) text read s whole short is = tt
unloaded workers (Run fault) text read s whole short is =
    of_known (text_of s) text (λ bytes. (length bytes ≤ input_limit) × IsOkAnd (read bytes) (λ loaded. IsRunFault (length loaded.1) workers fault)) whole (short, is)

-- and nothing was written
pub stopped_unloaded : {X L : Type 0} (A : Type 0) (batch workers : ℕ) (fault : LoadFault) (read : Result (X × List L) CaptureFault) (rest old : Option (List ℕ))
    → IsRunLoadFault workers fault read → HasStopped A batch workers fault rest old old
stopped_unloaded A batch workers (Text replay.Read) read rest old is = absurd is
stopped_unloaded A batch workers (Text replay.TooLarge) read rest old is = absurd is
stopped_unloaded A batch workers (Text (replay.Capture fault)) read rest old is = kept old
stopped_unloaded A batch workers (Text replay.Write) read rest old is = absurd is
stopped_unloaded A batch workers (Text replay.NoMemory) read rest old is = inl (kept old)
stopped_unloaded A batch workers (Run fault) read rest old is = kept old

-- the fault of a text that a load can't read
pub refused_text : {X L : Type 0} (workers : ℕ) (why : CaptureRefusal) (read : Result (X × List L) CaptureFault) → IsRefused why read
    → IsRunLoadFault workers (Text (of_refusal why)) read
refused_text workers (refusal.Fault fault) read is = is
refused_text workers refusal.NoMemory read is = tt

-- a text that is no capture
pub refused_capture : (A : Type 0) (text : List ℕ) (why : CaptureRefusal) → IsRefused why (capture_of {A = A} text) → IsRefused why (load_of A text)
refused_capture A text (refusal.Fault fault) is = rw is refl
refused_capture A text refusal.NoMemory is = tt

-- what was read is read
pub is_read : {X E : Type 0} (r : Result X E) (x : X) → r ≡ Ok x → IsOk r
is_read r x is = subst IsOk (sym is) refl

-- the links of lines that were lent
pub made_of : {A : Type 0} (lent lines : List (ℕ × Line A)) (made : Result (List Memory) CaptureFault) → lent ≡ lines → links_from [] lent ≡ made
    → links_from [] lines ≡ made
made_of lent lines made same is = ap (links_from []) (sym same) ∙ is

-- the halves of a report were split from these links
pub halves_made : {A : Type 0} (links : List Memory) (report : Report MemoryReading MemoryWriting A)
    → AreMadeOf (λ (half : MemoryReading). half.link) (λ (half : MemoryWriting). half.link) (map (λ (l : Memory). l) links) report
    → AreMadeOf (λ (half : MemoryReading). half.link) (λ (half : MemoryWriting). half.link) links report
halves_made links report made = record { readers = made.readers ∙ map-id links; writers = made.writers ∙ map-id links }

-- no link over memory is one whose split may fail
never_split : (o : Option Memory) → option_map (λ l. false) o ≡ Some true → ⊥
never_split None is = cc
never_split (Some l) is = cc

-- so the fault of a run over such links names none
pub none_split : (links : List Memory) (workers : ℕ) (fault : RunFault) → IsWholeFault (map (λ (l : Memory). false) links) workers fault → IsFaultOf (length links) workers fault
none_split links workers BadWorkers holds = holds
none_split links workers Listen holds = holds
none_split links workers (Call k) holds = holds
none_split links workers (Link k) holds = never_split (slice_get links k) (sym (slice_get-map (λ l. false) links k) ∙ holds)
none_split links workers HistoryFull holds = holds
none_split links workers NoMemory holds = holds
none_split links workers (Stage fault) holds = holds
none_split links workers (Audit a) holds = subst (λ n. IsFaultOf n workers (Audit a)) (length-map links (λ l. false)) holds

-- a capture that was read, with the links that its lines make
module _ {A : Type 0} (text : List ℕ) (capture : Capture A) where
  -- what a load reads of it
  pub loaded : (links : List Memory) → capture_of text ≡ Ok (capture_seen capture) → links_from [] capture.lines.items ≡ Ok links
      → load_of A text ≡ Ok (settings_of capture.config, links)
  loaded links read made = rw (read, made) refl

  -- a line that a load doesn't take
  pub refused_links : (why : CaptureRefusal) → capture_of text ≡ Ok (capture_seen capture) → IsRefused why (links_from [] capture.lines.items) → IsRefused why (load_of A text)
  refused_links (refusal.Fault fault) read is = rw (read, is) refl
  refused_links refusal.NoMemory read is = tt

ok_is : {T E : Type 0} (a b : T) (r : Result T E) → r ≡ Ok a → r ≡ Ok b → a ≡ b
ok_is a b r is eq = cc

-- what a load reads, if it reads anything, are links of some lines
of_links : {A : Type 0} (x y : Numbers × Own) (lines : List (ℕ × Line A)) (links : List Memory) (made : Result (List Memory) CaptureFault)
    → links_from [] lines ≡ made → map_result {Y = (Numbers × Own) × List Memory} (λ l. (x, l)) made ≡ Ok (y, links) → links_from [] lines ≡ Ok links
of_links x y lines links (Ok made) is eq =
    let same : made ≡ links = ap (λ (loaded : (Numbers × Own) × List Memory). loaded.1) (ok_is (x, made) (y, links) _ refl eq) in
    is ∙ ap (λ (l : List Memory). Ok l) same
of_links x y lines links (Err e) is eq = absurd (cc)

abbrev loaded_of : {A : Type 0} → Parsed A → Result ((Numbers × Own) × List Memory) CaptureFault
loaded_of parsed = map_result (λ links. ((parsed.numbers, parsed.own), links)) (links_from [] parsed.lines)

of_parsed : {A : Type 0} (read : Result (Parsed A) CaptureFault) (y : Numbers × Own) (links : List Memory) → (read >>= loaded_of) ≡ Ok (y, links)
    → (lines : List (ℕ × Line A)) × (links_from [] lines ≡ Ok links)
of_parsed (Ok parsed) y links is = (parsed.lines, of_links (parsed.numbers, parsed.own) y parsed.lines links (links_from [] parsed.lines) refl is)
of_parsed (Err e) y links is = absurd (cc)

-- a text of which a load reads this configuration and these links
module _ (A : Type 0) (text : List ℕ) (s : Config) (links : List Memory) (read : load_of A text ≡ Ok (settings_of s, links)) (workers : ℕ) where
  -- a run that has no report
  pub refused_run : (fault : RunFault) → (fault ≡ BadWorkers) ↔ (¬ IsCrew workers) → (IsCrew workers → IsFaultOf (length links) workers fault)
      → IsRunLoadFault workers (Run fault) (load_of A text)
  refused_run fault bad other =
      let P : Result ((Numbers × Own) × List Memory) CaptureFault → Type 0 = λ r. IsOkAnd r (λ l. IsRunFault (length l.1) workers fault) in
      subst P (sym read) (record { bad = bad; other = other })

  -- the history of a run that has one
  pub history_printed : (batch : ℕ) (report : Report MemoryReading MemoryWriting A) → Holds batch half_read half_written s (map (λ link. link.role) links) workers report
      → LinksReadOwn half_read (map source_of links) report
      → AreMadeOf (λ (half : MemoryReading). half.link) (λ (half : MemoryWriting). half.link) links report → IsCrew workers
      → IsLoadText A batch workers text (history_text s report.history.items)
  history_printed batch report holds bytes halves within =
      let of_lines = of_parsed (capture_of {A = A} text) (settings_of s) links read in
      record {
        settings = s;
        links = links;
        report = report;
        read = read;
        holds = holds;
        bytes = bytes;
        made = halves;
        unfailed = none_failed of_lines.0 links report of_lines.1 (holds.each.0 ∙ length-map links (λ link. link.role)) bytes;
        within = within;
        printed = refl;
      }
