-- A load whose history was written while its run went on.
use Rattle.std.proofs.Common.{◌≡◌, ◌≤◌, ◌↔◌, ℕ, List, length, map, reverse, Option, None, Some, Result, Ok, Err, ap, false, inl, inr, refl, subst, sym}
use Rattle.std.specs.Prelude.{⊤, IfErr, IfOk, IfSome, IsOk, MatchResult, OnOk}
use Rattle.std.specs.Result.{IsErrAnd, IsOkAnd}
use Rattle.std.specs.Io.KnownBytes.{Appends}
use Rattle.std.specs.declared.alloc.Global.{Global}
use Rattle.gn_rules.specs.Answer.{IsLegal}
use Rattle.gn_rules.specs.Limits.{IsCrew}
use Rattle.gn_rules.specs.declared.config.Config.{Config}
use Rattle.gn_rules.specs.declared.config.Own.{Own}
use Rattle.gn_rules.specs.declared.limits.Numbers.{Numbers}
use Rattle.gn_rules.specs.declared.receipt.Step.{Step}
use Rattle.gn_links.specs.Memory.{Memory, MemoryReading, MemoryWriting, half_read, half_written, source_of}
use Rattle.gn_text.specs.Header.{header_text}
use Rattle.gn_text.specs.Settings.{settings_of}
use Rattle.gn_text.specs.declared.fault.CaptureFault.{CaptureFault}
use Rattle.gn_numbers.specs.declared.titles.Text.TheVariants.{History}
use Rattle.gn_capture.specs.Histories.{history_text}
use Rattle.gn_io.specs.Input.{input_limit}
use Rattle.gn_io.specs.Parts.{AppendsPart}
use Rattle.gn_io.specs.Streams.{NoneFailed, SinkState, Streams, text_of}
use Rattle.gn_io.specs.declared.input.InputFault.{InputFault}
use Rattle.gn_io.specs.declared.input.InputFault.TheVariants as input_fault
use Rattle.gn_replay.specs.Faults.{of_input, of_refusal}
use Rattle.gn_text.specs.declared.fault.CaptureRefusal.{CaptureRefusal}
use Rattle.gn_text.specs.declared.fault.CaptureRefusal.TheVariants as refusal
use Rattle.gn_replay.specs.declared.fault.ReplayFault.TheVariants as replay
use Rattle.gn_report.specs.Accounts.{report_of}
use Rattle.gn_report.specs.declared.account.Account.{Account}
use Rattle.gn_report.specs.declared.unkept.Unkept.{Unkept}
use Rattle.gn_printed.specs.Printed.{IsPrintFault}
use Rattle.gn_printed.specs.Finished.{HasFinished}
use Rattle.gn_scribe.specs.Written.{HasJournalled}
use Rattle.gn_printed.specs.declared.ending.Waiting.{Waiting}
use Rattle.gn_printed.specs.declared.printed.PrintFault.{PrintFault}
use Rattle.gn_printed.specs.declared.printed.PrintFault.TheVariants as print
use Rattle.gn_threads.specs.Courses.{AreStepsOf}
use Rattle.gn_start.specs.Faults.{IsFaultOf, IsWholeFault}
use Rattle.gn_threads.specs.Headline.{AreMadeOf, Holds, LinksReadOwn}
use Rattle.gn_start.specs.declared.fault.RunFault.{RunFault}
use Rattle.gn_start.specs.declared.fault.RunFault.TheVariants.{BadWorkers, Listen, Call, Link, HistoryFull, NoMemory, Stage, Audit}
use Rattle.gn_threads.specs.declared.halted.Halted.{Halted}
use Rattle.gn_load.specs.declared.fault.LoadFault.{LoadFault}
use Rattle.gn_load.specs.declared.fault.LoadFault.TheVariants.{Run, Text}
use Rattle.gn_load.specs.Faults.{IsLoadFault, IsRunFault}
use Rattle.gn_load.specs.Journalled.{AppendsLegalPart, HasFinishedRun, HasStoppedWriting}
use Rattle.gn_load.specs.JournalledLoads.{AppendsStopped, HasStoppedAt, HasStoppedIn, HasStoppedOf, IsFaultAfter, IsJournalledLoad, IsLoadedBy, of_print}
use Rattle.gn_load.specs.Loads.{AppendsLoad, load_of}
use Rattle.gn_load.proofs.JournalLemmas.{all_finished, nothing_yet, part_finished, stopped_part, stopped_short}
use Rattle.gn_load.proofs.LoadLemmas.{halves_made, history_printed, is_read, none_split, of_known}
use Rattle.gn_load.proofs.ServedLemmas.{kept}

-- what is answered where no run began, since memory ran out
pub unbegun_load : (batch : ℕ) (s : Config) (links : List Memory) (workers : ℕ) (sink : SinkState) (answer : Result ⊤ LoadFault) → IsErrAnd answer (λ e. e ≡ Text replay.NoMemory)
    → IsJournalledLoad batch s links workers sink sink answer
unbegun_load batch s links workers sink (Ok x) is = absurd is
unbegun_load batch s links workers sink (Err e) is =
    subst (λ (f : LoadFault). IsJournalledLoad batch s links workers sink sink (Err f)) (sym is)
    (record { written = tt; unfailed = tt; stopped = (None, nothing_yet Global s sink.written); fault = tt })

-- or since there are too few workers, or too many
pub no_crew : (batch : ℕ) (s : Config) (links : List Memory) (workers : ℕ) (sink : SinkState) → (BadWorkers ≡ BadWorkers) ↔ (¬ IsCrew workers)
    → (IsCrew workers → IsFaultOf (length links) workers BadWorkers) → IsJournalledLoad batch s links workers sink sink (Err (Run BadWorkers))
no_crew batch s links workers sink bad other = record { written = tt; unfailed = tt; stopped = kept sink.written; fault = record { bad = bad; other = other } }

-- what is answered where the text of a history wasn't written whole, for this
unwritten_load : (batch : ℕ) (s : Config) (links : List Memory) (workers : ℕ) (old new : SinkState) (why : PrintFault) (history : Option (Unkept (Step Global)))
    → AppendsLegalPart Global s history old.written new.written → IsPrintFault why old new → IsJournalledLoad batch s links workers old new (Err (of_print why))
unwritten_load batch s links workers old new print.Write history part cause = record { written = tt; unfailed = tt; stopped = (history, part); fault = cause }
unwritten_load batch s links workers old new print.NoMemory history part cause = record { written = tt; unfailed = tt; stopped = (history, part); fault = tt }

module _ (batch : ℕ) (s : Config) (links : List Memory) (workers : ℕ) (steps : List (Step Global)) (old mid new : SinkState) (waiting : Result (Waiting Global) PrintFault)
    (has : HasJournalled (header_text History s) steps old mid waiting) where
  -- what is answered of a run with an account whose text was written
  all_loaded : (account : Account MemoryReading MemoryWriting Global) (done : ⊤) → Holds batch half_read half_written s (map (λ link. link.role) links) workers (report_of account)
      → LinksReadOwn half_read (map source_of links) (report_of account)
      → AreMadeOf (λ (half : MemoryReading). half.link) (λ (half : MemoryWriting). half.link) links (report_of account) → IsCrew workers
      → account.history.items ≡ steps → HasFinished mid new waiting (Ok done) → IsJournalledLoad batch s links workers old new (Ok tt)
  all_loaded account done holds bytes halves within is finished =
      let whole = all_finished s steps old mid new waiting done has finished in
      let text : Appends old.written new.written (history_text s account.history.items) =
      subst (λ (xs : List (Step Global)). Appends old.written new.written (history_text s xs)) (sym is) whole.0 in
      record {
        written = λ input read. (history_text s account.history.items, history_printed Global input s links read workers batch (report_of account) holds bytes halves within, text);
        unfailed = whole.1;
        stopped = tt;
        fault = tt;
      }

  -- what is answered of one whose text wasn't
  cut_load : (account : Account MemoryReading MemoryWriting Global) (why : PrintFault) → IsLegal s (reverse account.history.items)
      → account.history.items ≡ steps → HasFinished mid new waiting (Err why) → IsJournalledLoad batch s links workers old new (Err (of_print why))
  cut_load account why legal is finished =
      let cut = part_finished s steps old mid new waiting why has finished in
      let part : AppendsPart old.written new.written (history_text s account.history.items) =
      subst (λ (xs : List (Step Global)). AppendsPart old.written new.written (history_text s xs)) (sym is) cut.0 in
      unwritten_load batch s links workers old new why (Some account.history) (legal, part) cut.1

-- what a run answered that stopped, as far as that is known
pub record StoppedLoad (s : Config) (links workers : ℕ) (steps : List (Step Global)) (halted : Halted Global) : Type 0 where
  pub crew : IsCrew workers
  pub bad_workers : (halted.fault ≡ BadWorkers) ↔ (¬ IsCrew workers)
  pub fault : IsCrew workers → IsFaultOf links workers halted.fault
  pub full : halted.fault ≡ HistoryFull → IfSome halted.history (λ history. length history.items ≡ s.numbers.steps)
  pub has : IfSome halted.history (λ history. history.items ≡ steps)
  pub legal : IsLegal s (reverse steps)

-- a prefix of the text of the history that stands, or of a legal one, was written, and the fault isn't that there are too few workers
appends_stopped : (s : Config) (fault : RunFault) (old new : SinkState) (history : Option (Unkept (Step Global))) → ¬ (fault ≡ BadWorkers)
    → AppendsLegalPart Global s history old.written new.written → (fault ≡ HistoryFull → IfSome history (λ steps. length steps.items ≡ s.numbers.steps))
    → AppendsStopped fault s old.written new.written
appends_stopped s BadWorkers old new history not part full = absurd (not refl)
appends_stopped s Listen old new history not part full = (history, part, full)
appends_stopped s (Call k) old new history not part full = (history, part, full)
appends_stopped s (Link k) old new history not part full = (history, part, full)
appends_stopped s HistoryFull old new history not part full = (history, part, full)
appends_stopped s NoMemory old new history not part full = (history, part, full)
appends_stopped s (Stage fault) old new history not part full = (history, part, full)
appends_stopped s (Audit a) old new history not part full = (history, part, full)

module _ (batch : ℕ) (s : Config) (links : List Memory) (workers : ℕ) (steps : List (Step Global)) (old mid new : SinkState) (halted : Halted Global)
    (run : StoppedLoad s (length links) workers steps halted) where
  -- its text could be written while it went on
  stopped_whole : (waiting : Waiting Global) → HasJournalled (header_text History s) steps old mid (Ok waiting) → HasStoppedWriting halted.history mid new (Ok waiting)
      → IsJournalledLoad batch s links workers old new (Err (Run halted.fault))
  stopped_whole waiting has wrote = record {
    written = tt;
    unfailed = tt;
    stopped = appends_stopped s halted.fault old new halted.history (λ is. run.bad_workers.0 is run.crew) (stopped_part s steps old mid new waiting run.legal has halted.history run.has wrote) run.full;
    fault = record { bad = run.bad_workers; other = run.fault };
  }

  -- or it couldn't
  stopped_cut : (why : PrintFault) → HasJournalled (header_text History s) steps old mid (Err why) → new ≡ mid → IsJournalledLoad batch s links workers old new (Err (of_print why))
  stopped_cut why has still =
      let short = stopped_short s steps old mid new why run.legal has halted.history run.has still in
      unwritten_load batch s links workers old new why halted.history short.0 short.1

  -- by what waited
  stopped_as : (waiting : Result (Waiting Global) PrintFault) (fault : LoadFault) → HasJournalled (header_text History s) steps old mid waiting
      → MatchResult waiting (λ _. fault ≡ Run halted.fault) (λ why. fault ≡ of_print why) → HasStoppedWriting halted.history mid new waiting
      → IsJournalledLoad batch s links workers old new (Err fault)
  stopped_as (Ok waiting) fault has is wrote =
      subst (λ (f : LoadFault). IsJournalledLoad batch s links workers old new (Err f)) (sym is) (stopped_whole waiting has wrote)
  stopped_as (Err why) fault has is wrote =
      subst (λ (f : LoadFault). IsJournalledLoad batch s links workers old new (Err f)) (sym is) (stopped_cut why has wrote)

-- the fault of a load whose run stopped at this one, and whose text was written or couldn't be
abbrev fault_by : RunFault → Result ⊤ PrintFault → LoadFault
fault_by fault (Ok x) = Run fault
fault_by fault (Err why) = of_print why

-- what a run answered, as far as that is known
pub record HasLoaded (batch : ℕ) (s : Config) (links : List Memory) (workers : ℕ) (steps : List (Step Global))
    (answer : Result (Account MemoryReading MemoryWriting Global) (Halted Global)) : Type 0 where
  pub crew : IsCrew workers
  pub bad_workers : IfErr answer (λ halted. (halted.fault ≡ BadWorkers) ↔ (¬ IsCrew workers))
  pub fault : IfErr answer (λ halted. IsCrew workers → IsWholeFault (map (λ (l : Memory). false) links) workers halted.fault)
  pub full : IfErr answer (λ halted. halted.fault ≡ HistoryFull → IfSome halted.history (λ history. length history.items ≡ s.numbers.steps))
  pub holds : IfOk answer (λ account. Holds batch half_read half_written s (map (λ link. link.role) links) workers (report_of account))
  pub bytes : IfOk answer (λ account. LinksReadOwn half_read (map source_of links) (report_of account))
  pub made : IfOk answer (λ account. AreMadeOf (λ (half : MemoryReading). half.link) (λ (half : MemoryWriting). half.link) (map (λ (l : Memory). l) links) (report_of account))
  pub held : AreStepsOf answer steps
  pub legal : IsLegal s (reverse steps)

-- the fault of a load whose run stopped, by what waited of its text
loaded_by : (fault : RunFault) (waiting : Result (Waiting Global) PrintFault) (printed : Result ⊤ PrintFault) → MatchResult waiting (λ _. printed ≡ Ok tt) (λ why. printed ≡ Err why)
    → MatchResult waiting (λ _. fault_by fault printed ≡ Run fault) (λ why. fault_by fault printed ≡ of_print why)
loaded_by fault (Ok waiting) printed by = ap (λ p. fault_by fault p) by
loaded_by fault (Err why) printed by = ap (λ p. fault_by fault p) by

-- what is answered by a load whose run answered so, once its text was finished or couldn't be
pub loaded : (batch : ℕ) (s : Config) (links : List Memory) (workers : ℕ) (steps : List (Step Global)) (old mid new : SinkState)
    (answer : Result (Account MemoryReading MemoryWriting Global) (Halted Global)) → HasLoaded batch s links workers steps answer
    → (waiting : Result (Waiting Global) PrintFault) → HasJournalled (header_text History s) steps old mid waiting
    → (printed : Result ⊤ PrintFault) → HasFinishedRun answer mid new waiting printed
    → (after : Result ⊤ LoadFault) → IsLoadedBy answer printed after → IsJournalledLoad batch s links workers old new after
loaded batch s links workers steps old mid new (Ok account) run waiting has (Ok x) finished after is =
    subst (λ (r : Result ⊤ LoadFault). IsJournalledLoad batch s links workers old new r) (sym is)
    (all_loaded batch s links workers steps old mid new waiting has account x run.holds run.bytes (halves_made links (report_of account) run.made) run.crew run.held finished)
loaded batch s links workers steps old mid new (Ok account) run waiting has (Err why) finished after is =
    subst (λ (r : Result ⊤ LoadFault). IsJournalledLoad batch s links workers old new r) (sym is)
    (cut_load batch s links workers steps old mid new waiting has account why run.holds.legal run.held finished)
loaded batch s links workers steps old mid new (Err halted) run waiting has (Ok x) finished after is =
    subst (λ (r : Result ⊤ LoadFault). IsJournalledLoad batch s links workers old new r) (sym is)
    (stopped_as batch s links workers steps old mid new halted
    (record { crew = run.crew; bad_workers = run.bad_workers; fault = λ crew. none_split links workers halted.fault (run.fault crew); full = run.full; has = run.held; legal = run.legal })
    waiting (Run halted.fault) has (loaded_by halted.fault waiting (Ok x) finished.1) finished.0)
loaded batch s links workers steps old mid new (Err halted) run waiting has (Err why) finished after is =
    subst (λ (r : Result ⊤ LoadFault). IsJournalledLoad batch s links workers old new r) (sym is)
    (stopped_as batch s links workers steps old mid new halted
    (record { crew = run.crew; bad_workers = run.bad_workers; fault = λ crew. none_split links workers halted.fault (run.fault crew); full = run.full; has = run.held; legal = run.legal })
    waiting (of_print why) has (loaded_by halted.fault waiting (Err why) finished.1) finished.0)

-- what follows of an answer
at_ok : {P Q : Type 0} (r : Result ⊤ LoadFault) → (P → Q) → OnOk r P → OnOk r Q
at_ok (Ok x) more h = more h
at_ok (Err e) more h = tt

at_err : {P Q R : LoadFault → Type 0} (r : Result ⊤ LoadFault) → ((fault : LoadFault) → P fault → Q fault → R fault) → IfErr r P → IfErr r Q → IfErr r R
at_err (Ok x) more h k = tt
at_err (Err e) more h k = more e h k

-- an answer to an input that is read so
module _ (batch : ℕ) (s : Config) (links : List Memory) (workers : ℕ) (k : Streams) (text : List ℕ) (read : load_of Global text ≡ Ok (settings_of s, links))
    (whole : IfSome (text_of k) (λ bytes. text ≡ bytes)) (short : length text ≤ input_limit) where
  -- what of its text was written
  stopped_in : (fault : LoadFault) → HasStoppedOf fault s k.sink.written k.sink_new.written → HasStoppedIn fault (text_of k) k.sink.written k.sink_new.written
  stopped_in fault stop =
      of_known (text_of k) text (λ input. IsOkAnd (load_of Global input) (λ loaded. (c : Config) × (loaded.0 ≡ settings_of c) × HasStoppedOf fault c k.sink.written k.sink_new.written))
      whole (subst (λ (r : Result ((Numbers × Own) × List Memory) CaptureFault). IsOkAnd r (λ loaded. (c : Config) × (loaded.0 ≡ settings_of c) × HasStoppedOf fault c k.sink.written k.sink_new.written)) (sym read) (s, refl, stop))

  pub stopped_at : (fault : LoadFault) → HasStoppedOf fault s k.sink.written k.sink_new.written → IsFaultAfter (length links) workers fault k.sink k.sink_new
      → HasStoppedAt fault (text_of k) k.sink.written k.sink_new.written
  stopped_at (Text replay.Write) stop is = stopped_in (Text replay.Write) stop
  stopped_at (Text replay.NoMemory) stop is = inr (stopped_in (Text replay.NoMemory) stop)
  stopped_at (Text replay.Read) stop is = absurd is
  stopped_at (Text replay.TooLarge) stop is = absurd is
  stopped_at (Text (replay.Capture fault)) stop is = absurd is
  stopped_at (Run fault) stop is = stopped_in (Run fault) stop

  -- why it stopped
  fault_at : (fault : LoadFault) → IsFaultAfter (length links) workers fault k.sink k.sink_new → IsLoadFault workers fault (load_of Global) k
  fault_at (Text replay.Write) is =
      (of_known (text_of k) text (λ input. (length input ≤ input_limit) × IsOk (load_of Global input)) whole (short, is_read _ _ read), is)
  fault_at (Text replay.NoMemory) is = tt
  fault_at (Text replay.Read) is = absurd is
  fault_at (Text replay.TooLarge) is = absurd is
  fault_at (Text (replay.Capture fault)) is = absurd is
  fault_at (Run fault) is =
      of_known (text_of k) text (λ input. (length input ≤ input_limit) × IsOkAnd (load_of Global input) (λ loaded. IsRunFault (length loaded.1) workers fault)) whole
      (short, subst (λ (r : Result ((Numbers × Own) × List Memory) CaptureFault). IsOkAnd r (λ loaded. IsRunFault (length loaded.1) workers fault)) (sym read) is)

  pub known_written : (answer : Result ⊤ LoadFault) (is : IsJournalledLoad batch s links workers k.sink k.sink_new answer) → OnOk answer (IfSome (text_of k) (λ input. AppendsLoad Global batch workers input k.sink.written k.sink_new.written))
  known_written answer is =
      at_ok answer (λ h. of_known (text_of k) text (λ input. AppendsLoad Global batch workers input k.sink.written k.sink_new.written) whole (h text read)) is.written

  pub known_stopped : (answer : Result ⊤ LoadFault) (is : IsJournalledLoad batch s links workers k.sink k.sink_new answer) → IfErr answer (λ fault. HasStoppedAt fault (text_of k) k.sink.written k.sink_new.written)
  known_stopped answer is = at_err answer (λ fault stop may. stopped_at fault stop may) is.stopped is.fault

  pub known_fault : (answer : Result ⊤ LoadFault) (is : IsJournalledLoad batch s links workers k.sink k.sink_new answer) → IfErr answer (λ fault. IsLoadFault workers fault (load_of Global) k)
  known_fault answer is = at_err answer (λ fault may same. fault_at fault may) is.fault is.fault

  -- the input is short and can be read, and no read failed
  pub known_short : (answer : Result ⊤ LoadFault) (is : IsJournalledLoad batch s links workers k.sink k.sink_new answer) → OnOk answer (IfSome (text_of k) (λ input. length input ≤ input_limit))
  known_short answer is = at_ok answer (λ h. of_known (text_of k) text (λ input. length input ≤ input_limit) whole short) is.unfailed

  pub known_valid : (answer : Result ⊤ LoadFault) (is : IsJournalledLoad batch s links workers k.sink k.sink_new answer) → OnOk answer (IfSome (text_of k) (λ input. IsOk (load_of Global input)))
  known_valid answer is = at_ok answer (λ h. of_known (text_of k) text (λ input. IsOk (load_of Global input)) whole (is_read _ _ read)) is.unfailed

  pub known_unfailed : (answer : Result ⊤ LoadFault) (is : IsJournalledLoad batch s links workers k.sink k.sink_new answer) → k.source_new.failures ≡ k.source.failures → OnOk answer (NoneFailed k)
  known_unfailed answer is none = at_ok answer (λ h. (none, h)) is.unfailed

-- what was written where the input wasn't read
pub unread_at : (fault : InputFault) (rest old : Option (List ℕ)) → HasStoppedAt (Text (of_input fault)) rest old old
unread_at input_fault.Read rest old = kept old
unread_at input_fault.TooLarge rest old = kept old
unread_at input_fault.NoMemory rest old = inl (kept old)

pub refused_at : (why : CaptureRefusal) (rest old : Option (List ℕ)) → HasStoppedAt (Text (of_refusal why)) rest old old
refused_at (refusal.Fault fault) rest old = kept old
refused_at refusal.NoMemory rest old = inl (kept old)
