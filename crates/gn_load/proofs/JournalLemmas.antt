-- A history that was written while its run went on.
use Rattle.std.proofs.Common.{◌≡◌, ◌∙◌, ◌+◌, ◌↔◌, ℕ, true, List, [], ◌++◌, codes, length, reverse, Option, None, Some, Result, Ok, Err, ap, append-nil, arith, inl, inr, refl, subst, sym}
use Rattle.std.specs.Prelude.{⊤, IfErr, IfOk, IfSome, IsSome, MatchResult}
use Rattle.rtrb.specs.Ring.{received}
use Rattle.std.specs.Io.KnownBytes.{Appends}
use Rattle.std.specs.declared.net.socket_addr.SocketAddr.{SocketAddr}
use Rattle.gn_report.specs.declared.unkept.Unkept.{Unkept}
use Rattle.gn_rules.specs.Answer.{IsLegal}
use Rattle.gn_rules.specs.Limits.{IsCrew}
use Rattle.gn_rules.specs.declared.config.Config.{Config}
use Rattle.gn_rules.specs.declared.receipt.Step.{Step}
use Rattle.gn_text.specs.Header.{header_text}
use Rattle.gn_numbers.specs.declared.titles.Text.TheVariants.{History}
use Rattle.gn_capture.specs.Histories.{history_text, steps_text}
use Rattle.gn_io.specs.Parts.{AppendsPart}
use Rattle.gn_io.specs.Streams.{NoWriteFailed, SinkState}
use Rattle.gn_printed.specs.declared.ending.Waiting.{Waiting}
use Rattle.gn_printed.specs.declared.printed.PrintFault.{PrintFault}
use Rattle.gn_printed.specs.Printed.{IsPrintFault}
use Rattle.gn_printed.specs.Finished.{HasFinished}
use Rattle.gn_scribe.specs.Written.{HasEnded, HasFollowed, HasJournalled}
use Rattle.gn_scribe.specs.declared.scribe.Scribe.{Scribe}
use Rattle.gn_scribe.proofs.EndLemmas.{journalled}
use Rattle.gn_printed.proofs.PrintLemmas.{all_written, cause_after, more_cut, none_written, part_of}
use Rattle.gn_threads.specs.Courses.{AreTallies}
use Rattle.gn_start.specs.Faults.{IsArrivingFault}
use Rattle.gn_start.specs.declared.fault.RunFault.{RunFault}
use Rattle.gn_start.specs.declared.fault.RunFault.TheVariants.{BadWorkers, HistoryFull}
use Rattle.gn_start.specs.declared.fault.RunFault.TheVariants as run_fault
use Rattle.gn_threads.specs.declared.halted.Halted.{Halted}
use Rattle.gn_threads.specs.Headline.{AreMadeOf, AreOfOne, Holds}
use Rattle.gn_report.specs.Accounts.{report_of}
use Rattle.gn_report.specs.declared.account.Account.{Account}
use Rattle.gn_printed.specs.declared.printed.PrintFault.TheVariants.{NoMemory, Write}
use Rattle.gn_service.proofs.TallyLemmas.{tallied_as, tallies_as}
use Rattle.gn_service.specs.Links.{origins_of, roles_of}
use Rattle.gn_service.specs.Ran.{Remembered, ran_of}
use Rattle.gn_service.specs.Tallies.{tallies_of}
use Rattle.gn_sockets.specs.TcpHalves.{TcpReading, TcpWriting, half_read, half_written}
use Rattle.gn_load.specs.Journalled.{AppendsLegalPart, HasFinishedRun, HasStoppedWriting, IsAnsweredBy, IsJournalled, fault_after, of_print}
use Rattle.gn_load.specs.declared.serve_fault.ServeFault.{ServeFault}
use Rattle.gn_load.specs.Served.{AppendsServedPart, IsServeFault}
use Rattle.gn_load.specs.declared.serve_fault.ServeFault.TheVariants.{Run}
use Rattle.gn_load.specs.declared.serve_halted.ServeHalted.{ServeHalted}
use Rattle.gn_load.proofs.ServedLemmas.{is_full, memory_is_other, run_is, write_is_other, written, written_part}

-- nothing was written, so the least of all texts was
pub nothing_yet : (A : Type 0) (s : Config) (old : Option (List ℕ)) → AppendsLegalPart A s None old old
nothing_yet A s old = ([], tt, none_written old (header_text History s ++ steps_text {A = A} []))

module _ {A : Type 0} where
  -- a scribe that began with the heading and before any step, followed the run and ended
  pub journalled_from : (s : Config) (s0 s1 : Scribe A) (k0 k1 k2 : SinkState) (steps : List (Step A)) (written : Result ⊤ PrintFault) (waiting : Result (Waiting A) PrintFault)
      → (received s0.steps ≡ []) × (s0.block ≡ header_text History s) → HasFollowed s0 s1 k0 k1 written → HasEnded s1 steps k1 k2 written waiting
      → HasJournalled (header_text History s) steps k0 k2 waiting
  journalled_from s s0 s1 k0 k1 k2 steps written waiting begun followed ended =
      subst (λ (text : List ℕ). HasJournalled text steps k0 k2 waiting) begun.1 (journalled s0 s1 k0 k1 k2 steps begun.0 written waiting followed ended)

  -- while the run went on a prefix of the text of its steps was written
  pub so_far : (s : Config) (steps : List (Step A)) (old mid : SinkState) (waiting : Result (Waiting A) PrintFault) → HasJournalled (header_text History s) steps old mid waiting
      → AppendsPart old.written mid.written (header_text History s ++ steps_text steps)
  so_far s steps old mid (Ok waiting) has = (waiting.block, has.0)
  so_far s steps old mid (Err fault) has = has.0

  -- and so of the history's, which ends behind it
  pub part_so_far : (s : Config) (steps : List (Step A)) (old mid : SinkState) (waiting : Result (Waiting A) PrintFault) → HasJournalled (header_text History s) steps old mid waiting
      → AppendsPart old.written mid.written (history_text s steps)
  part_so_far s steps old mid waiting has =
      part_of old.written mid.written (header_text History s ++ steps_text steps) (codes "end\n") (history_text s steps) (so_far s steps old mid waiting has) refl

  -- once the rest was written the text is there, whole
  pub all_finished : (s : Config) (steps : List (Step A)) (old mid new : SinkState) (waiting : Result (Waiting A) PrintFault) (done : ⊤)
      → HasJournalled (header_text History s) steps old mid waiting → HasFinished mid new waiting (Ok done)
      → Appends old.written new.written (history_text s steps) × NoWriteFailed old new
  all_finished s steps old mid new (Ok waiting) done has finished = (
    all_written old.written mid.written new.written waiting.block (codes "end\n") (waiting.block ++ codes "end\n") (header_text History s ++ steps_text steps) (history_text s steps) has.0 refl
        finished.0 refl,
    (finished.1.0 ∙ has.2.0, finished.1.1 ∙ has.2.1),
  )
  all_finished s steps old mid new (Err first) done has finished = absurd finished

  -- or only a prefix is
  pub part_finished : (s : Config) (steps : List (Step A)) (old mid new : SinkState) (waiting : Result (Waiting A) PrintFault) (fault : PrintFault)
      → HasJournalled (header_text History s) steps old mid waiting → HasFinished mid new waiting (Err fault)
      → AppendsPart old.written new.written (history_text s steps) × IsPrintFault fault old new
  part_finished s steps old mid new (Ok waiting) fault has finished = (
    more_cut old.written mid.written new.written waiting.block (codes "end\n") [] (header_text History s ++ steps_text steps) (history_text s steps) has.0 finished.0
        (append-nil (history_text s steps)),
    cause_after fault old mid new has.2 finished.1,
  )
  part_finished s steps old mid new (Err first) fault has finished = (
    subst (λ (k : SinkState). AppendsPart old.written k.written (history_text s steps)) (sym finished.0) (part_so_far s steps old mid (Err first) has),
    subst (λ (k : SinkState). IsPrintFault fault old k) (sym finished.0) (subst (λ f. IsPrintFault f old mid) (sym finished.1) has.1),
  )

-- the fault of a text that wasn't written whole is none of the workers
pub other_than_workers : (workers : ℕ) (why : PrintFault) → IsCrew workers → (of_print why ≡ Run BadWorkers) ↔ (¬ IsCrew workers)
other_than_workers workers Write crew = write_is_other workers crew
other_than_workers workers NoMemory crew = memory_is_other workers crew

-- nor of a full history
pub never_full : (why : PrintFault) → ¬ (of_print why ≡ Run HistoryFull)
never_full Write is = cc
never_full NoMemory is = cc

-- it is one that a serve may have
pub fault_of_print : (links workers : ℕ) (why : PrintFault) (old new : SinkState) → IsPrintFault why old new → IsServeFault links workers (of_print why) old new
fault_of_print links workers Write old new cause = cause
fault_of_print links workers NoMemory old new cause = tt

-- a run may be out of memory before it began
pub arriving_fault : (links workers : ℕ) (fault : RunFault) → fault ≡ run_fault.NoMemory → IsArrivingFault true links workers fault
arriving_fault links workers fault is = subst (λ f. IsArrivingFault true links workers f) (sym is) tt

-- what is answered where no run began
pub unbegun : {A : Type 0} (batch : ℕ) (s : Config) (peers : List SocketAddr) (accept workers : ℕ) (sink : SinkState) (halted : ServeHalted A) (fault : RunFault)
    → (halted.fault ≡ Run fault) × (halted.history ≡ None) × (halted.ran ≡ None) → (fault ≡ BadWorkers) ↔ (¬ IsCrew workers)
    → (IsCrew workers → IsArrivingFault true (length peers + accept) workers fault) → IsJournalled batch s peers accept workers sink sink (Err halted)
unbegun {A} batch s peers accept workers sink halted fault is crew may =
    record {
      crew = tt;
      bad_workers = subst (λ f. (f ≡ Run BadWorkers) ↔ (¬ IsCrew workers)) (sym is.0) (run_is fault _ crew);
      fault = λ within. subst (λ f. IsServeFault (length peers + accept) workers f sink sink) (sym is.0) (may within);
      ran = tt;
      written = tt;
      report = tt;
      unfailed = tt;
      holds = tt;
      made = tt;
      one_socket = tt;
      part = subst (λ h. AppendsLegalPart A s h sink.written sink.written) (sym is.1) (nothing_yet A s sink.written);
      full = λ all. subst (λ (h : Option (Unkept (Step A))). IfSome h (λ history. length history.items ≡ s.numbers.steps)) (sym is.1) tt;
      tallied =
          subst (λ (h : Option (Unkept (Step A))). IfSome h (λ history. IfSome halted.links (λ tallies. AreTallies history.items (length peers + accept) tallies.items))) (sym is.1) tt;
      remembered = subst (λ r. IfSome r (λ _. AppendsServedPart A batch s peers accept workers r sink.written sink.written)) (sym is.2) tt;
    }

-- a prefix of the text of a legal history was written, where one stands of that
module _ {A : Type 0} (s : Config) (steps : List (Step A)) (old mid new : SinkState) (waiting : Result (Waiting A) PrintFault) (legal : IsLegal s (reverse steps))
    (has : HasJournalled (header_text History s) steps old mid waiting) where
  -- of a history of these steps
  part_of_these : (h : Unkept (Step A)) (last : SinkState) → h.items ≡ steps → AppendsPart old.written last.written (history_text s steps) → AppendsLegalPart A s (Some h) old.written last.written
  part_of_these h last is part = subst (λ (xs : List (Step A)). IsLegal s (reverse xs) × AppendsPart old.written last.written (history_text s xs)) (sym is) (legal, part)

  -- nothing more was written
  pub left_part : (history : Option (Unkept (Step A))) → IfSome history (λ h. h.items ≡ steps) → AppendsLegalPart A s history old.written mid.written
  left_part None is = (steps, legal, so_far s steps old mid waiting has)
  left_part (Some h) is = part_of_these h mid is (part_so_far s steps old mid waiting has)

  -- all that stands was, or a prefix of it
  finished_part : (printed : Result ⊤ PrintFault) → HasFinished mid new waiting printed → AppendsPart old.written new.written (history_text s steps)
  finished_part (Ok done) finished = ([], (history_text s steps, (all_finished s steps old mid new waiting done has finished).0, append-nil _))
  finished_part (Err fault) finished = (part_finished s steps old mid new waiting fault has finished).0

  pub done_part : (history : Option (Unkept (Step A))) → IfSome history (λ h. h.items ≡ steps) → IsSome history → (printed : Result ⊤ PrintFault) → HasFinished mid new waiting printed
      → AppendsLegalPart A s history old.written new.written
  done_part None is some printed finished = cc
  done_part (Some h) is some printed finished = part_of_these h new is (finished_part printed finished)

-- so of a run that stopped, of whose text the rest was written where its history stands
pub stopped_part : {A : Type 0} (s : Config) (steps : List (Step A)) (old mid new : SinkState) (waiting : Waiting A) (legal : IsLegal s (reverse steps))
    → HasJournalled (header_text History s) steps old mid (Ok waiting) → (history : Option (Unkept (Step A))) → IfSome history (λ h. h.items ≡ steps)
    → HasStoppedWriting history mid new (Ok waiting) → AppendsLegalPart A s history old.written new.written
stopped_part {A} s steps old mid new waiting legal has history is either = elim either [
  | inl still ↦ subst (λ (k : SinkState). AppendsLegalPart A s history old.written k.written) (sym still) (left_part s steps old mid mid (Ok waiting) legal has history is)
  | inr finished ↦ done_part s steps old mid new (Ok waiting) legal has history is finished.0 finished.1 finished.2
]

-- or couldn't be written
pub stopped_short : {A : Type 0} (s : Config) (steps : List (Step A)) (old mid new : SinkState) (why : PrintFault) (legal : IsLegal s (reverse steps))
    → HasJournalled (header_text History s) steps old mid (Err why) → (history : Option (Unkept (Step A))) → IfSome history (λ h. h.items ≡ steps) → new ≡ mid
    → AppendsLegalPart A s history old.written new.written × IsPrintFault why old new
stopped_short {A} s steps old mid new why legal has history is still = (
  subst (λ (k : SinkState). AppendsLegalPart A s history old.written k.written) (sym still) (left_part s steps old mid mid (Err why) legal has history is),
  subst (λ (k : SinkState). IsPrintFault why old k) (sym still) has.1,
)

-- the fault of a run that stopped, by what waited of its text
pub fault_by : {A : Type 0} (fault : RunFault) (waiting : Result (Waiting A) PrintFault) (printed : Result ⊤ PrintFault) (after : ServeFault) → after ≡ fault_after fault printed
    → MatchResult waiting (λ _. printed ≡ Ok tt) (λ why. printed ≡ Err why) → MatchResult waiting (λ _. after ≡ Run fault) (λ why. after ≡ of_print why)
fault_by fault (Ok waiting) printed after is by = is ∙ ap (λ p. fault_after fault p) by
fault_by fault (Err why) printed after is by = is ∙ ap (λ p. fault_after fault p) by

-- what a run answered that stopped, as far as that is known
pub record HasStopped {A : Type 0} (s : Config) (links workers : ℕ) (steps : List (Step A)) (halted : Halted A) : Type 0 where
  pub crew : IsCrew workers
  pub bad_workers : (halted.fault ≡ BadWorkers) ↔ (¬ IsCrew workers)
  pub fault : IsCrew workers → IsArrivingFault true links workers halted.fault
  pub full : halted.fault ≡ HistoryFull → IfSome halted.history (λ history. length history.items ≡ s.numbers.steps)
  pub tallied : IfSome halted.history (λ history. IfSome halted.links (λ tallies. AreTallies history.items links tallies.items))
  pub has : IfSome halted.history (λ history. history.items ≡ steps)
  pub legal : IsLegal s (reverse steps)

module _ {A : Type 0} (batch : ℕ) (s : Config) (peers : List SocketAddr) (accept workers : ℕ) (steps : List (Step A)) (old mid new : SinkState) (halted : Halted A) (after : ServeHalted A)
    (run : HasStopped s (length peers + accept) workers steps halted) (same : (after.history ≡ halted.history) × (after.links ≡ halted.links) × (after.ran ≡ None)) where
  -- what is answered, by its fault and by what was written
  stopped_so : (fault : ServeFault) → after.fault ≡ fault → (fault ≡ Run BadWorkers) ↔ (¬ IsCrew workers) → IsServeFault (length peers + accept) workers fault old new
      → (fault ≡ Run HistoryFull → halted.fault ≡ HistoryFull) → AppendsLegalPart A s halted.history old.written new.written
      → IsJournalled batch s peers accept workers old new (Err after)
  stopped_so fault is bad may all part =
      record {
        crew = tt;
        bad_workers = subst (λ f. (f ≡ Run BadWorkers) ↔ (¬ IsCrew workers)) (sym is) bad;
        fault = λ _. subst (λ f. IsServeFault (length peers + accept) workers f old new) (sym is) may;
        ran = tt;
        written = tt;
        report = tt;
        unfailed = tt;
        holds = tt;
        made = tt;
        one_socket = tt;
        part = subst (λ h. AppendsLegalPart A s h old.written new.written) (sym same.0) part;
        full = λ full. subst (λ (h : Option (Unkept (Step A))). IfSome h (λ history. length history.items ≡ s.numbers.steps)) (sym same.0) (run.full (all (sym is ∙ full)));
        tallied = tallies_as (length peers + accept) halted.history after.history halted.links after.links same.0 same.1 run.tallied;
        remembered = subst (λ r. IfSome r (λ _. AppendsServedPart A batch s peers accept workers r old.written new.written)) (sym same.2) tt;
      }

  -- by what waited
  stopped_as : (waiting : Result (Waiting A) PrintFault) → HasJournalled (header_text History s) steps old mid waiting
      → MatchResult waiting (λ _. after.fault ≡ Run halted.fault) (λ why. after.fault ≡ of_print why) → HasStoppedWriting halted.history mid new waiting
      → IsJournalled batch s peers accept workers old new (Err after)
  stopped_as (Ok waiting) has is wrote =
      stopped_so (Run halted.fault) is (run_is halted.fault _ run.bad_workers) (run.fault run.crew) (λ full. is_full full)
      (stopped_part s steps old mid new waiting run.legal has halted.history run.has wrote)
  stopped_as (Err why) has is still =
      let short = stopped_short s steps old mid new why run.legal has halted.history run.has still in
      stopped_so (of_print why) is (other_than_workers workers why run.crew) (fault_of_print (length peers + accept) workers why old new short.1) (λ full. absurd (never_full why full)) short.0

-- what is answered of a run with an account whose text was written
all_written_of : {A : Type 0} (batch : ℕ) (s : Config) (peers : List SocketAddr) (accept workers : ℕ) (steps : List (Step A)) (old mid new : SinkState) (account : Account TcpReading TcpWriting A) (ran : Remembered A)
    (waiting : Result (Waiting A) PrintFault) (done : ⊤) → IsCrew workers → ran ≡ ran_of (report_of account)
    → Holds batch half_read half_written s (roles_of (length peers) (length peers + accept)) workers (report_of account)
    → AreMadeOf (λ half. half.origin) (λ half. half.origin) (origins_of peers (length peers + accept)) (report_of account) → AreOfOne (λ half. half.socket) (λ half. half.socket) (report_of account)
    → account.history.items ≡ steps → HasJournalled (header_text History s) steps old mid waiting → HasFinished mid new waiting (Ok done)
    → IsJournalled batch s peers accept workers old new (Ok (account, ran))
all_written_of {A} batch s peers accept workers steps old mid new account ran waiting done crew remembered holds made one is has finished =
    let whole = all_finished s steps old mid new waiting done has finished in
    record {
      crew = crew;
      bad_workers = tt;
      fault = tt;
      ran = remembered;
      written = written batch s peers accept workers (report_of account) ran remembered holds made one steps old.written new.written (sym is) whole.0;
      report = subst (λ (xs : List (Step A)). Appends old.written new.written (history_text s xs)) (sym is) whole.0;
      unfailed = whole.1;
      holds = holds;
      made = made;
      one_socket = one;
      part = tt;
      full = tt;
      tallied = tt;
      remembered = tt;
    }

-- what is answered of a run with an account whose text wasn't written whole
unwritten : {A : Type 0} (batch : ℕ) (s : Config) (peers : List SocketAddr) (accept workers : ℕ) (steps : List (Step A)) (old mid new : SinkState) (account : Account TcpReading TcpWriting A) (ran : Remembered A)
    (after : ServeHalted A) (waiting : Result (Waiting A) PrintFault) (why : PrintFault) → IsCrew workers → ran ≡ ran_of (report_of account)
    → Holds batch half_read half_written s (roles_of (length peers) (length peers + accept)) workers (report_of account)
    → AreMadeOf (λ half. half.origin) (λ half. half.origin) (origins_of peers (length peers + accept)) (report_of account) → AreOfOne (λ half. half.socket) (λ half. half.socket) (report_of account)
    → account.history.items ≡ steps → HasJournalled (header_text History s) steps old mid waiting → HasFinished mid new waiting (Err why)
    → after.fault ≡ of_print why → (after.history ≡ Some account.history) × (after.ran ≡ Some ran) → IfSome after.links (λ tallies. tallies.items ≡ tallies_of account.links.items)
    → IsJournalled batch s peers accept workers old new (Err after)
unwritten {A} batch s peers accept workers steps old mid new account ran after waiting why crew remembered holds made one is has finished fault same tallies =
    let cut = part_finished s steps old mid new waiting why has finished in
    let part : AppendsPart old.written new.written (history_text s account.history.items) =
    subst (λ (xs : List (Step A)). AppendsPart old.written new.written (history_text s xs)) (sym is) cut.0 in
    record {
      crew = tt;
      bad_workers = subst (λ f. (f ≡ Run BadWorkers) ↔ (¬ IsCrew workers)) (sym fault) (other_than_workers workers why crew);
      fault = λ _. subst (λ f. IsServeFault (length peers + accept) workers f old new) (sym fault) (fault_of_print (length peers + accept) workers why old new cut.1);
      ran = tt;
      written = tt;
      report = tt;
      unfailed = tt;
      holds = tt;
      made = tt;
      one_socket = tt;
      part = subst (λ h. AppendsLegalPart A s h old.written new.written) (sym same.0) (holds.legal, part);
      full = λ all. absurd (never_full why (sym fault ∙ all));
      tallied = tallied_as batch s (length peers) (length peers + accept) (omega (arith)) workers account holds after.history after.links same.0 tallies;
      remembered = subst (λ r. IfSome r (λ _. AppendsServedPart A batch s peers accept workers r old.written new.written)) (sym same.1)
          (written_part batch s peers accept workers (report_of account) ran remembered holds made one steps old.written new.written (sym is) cut.0);
    }

-- what a run answered, as far as that is known
pub record HasServed {A : Type 0} (batch : ℕ) (s : Config) (peers : List SocketAddr) (accept workers : ℕ) (steps : List (Step A))
    (answer : Result (Account TcpReading TcpWriting A × Remembered A) (Halted A)) : Type 0 where
  pub crew : IsCrew workers
  pub bad_workers : IfErr answer (λ halted. (halted.fault ≡ BadWorkers) ↔ (¬ IsCrew workers))
  pub fault : IfErr answer (λ halted. IsCrew workers → IsArrivingFault true (length peers + accept) workers halted.fault)
  pub full : IfErr answer (λ halted. halted.fault ≡ HistoryFull → IfSome halted.history (λ history. length history.items ≡ s.numbers.steps))
  pub tallied : IfErr answer (λ halted. IfSome halted.history (λ history. IfSome halted.links (λ tallies. AreTallies history.items (length peers + accept) tallies.items)))
  pub ran : IfOk answer (λ done. done.1 ≡ ran_of (report_of done.0))
  pub holds : IfOk answer (λ done. Holds batch half_read half_written s (roles_of (length peers) (length peers + accept)) workers (report_of done.0))
  pub made : IfOk answer (λ done. AreMadeOf (λ half. half.origin) (λ half. half.origin) (origins_of peers (length peers + accept)) (report_of done.0))
  pub one_socket : IfOk answer (λ done. AreOfOne (λ half. half.socket) (λ half. half.socket) (report_of done.0))
  pub held : MatchResult answer (λ done. done.0.history.items ≡ steps) (λ halted. IfSome halted.history (λ history. history.items ≡ steps))
  pub legal : IsLegal s (reverse steps)

-- what is answered by a run that answered so, once its text was finished or couldn't be
pub answered : {A : Type 0} (batch : ℕ) (s : Config) (peers : List SocketAddr) (accept workers : ℕ) (steps : List (Step A)) (old mid new : SinkState)
    (answer : Result (Account TcpReading TcpWriting A × Remembered A) (Halted A)) → HasServed batch s peers accept workers steps answer
    → (waiting : Result (Waiting A) PrintFault) → HasJournalled (header_text History s) steps old mid waiting
    → (printed : Result ⊤ PrintFault) → HasFinishedRun answer mid new waiting printed
    → (after : Result (Account TcpReading TcpWriting A × Remembered A) (ServeHalted A)) → IsAnsweredBy (λ done. done.0.history) (λ done. done.1) answer printed after
    → IfErr after (λ halted. IfSome halted.links (λ tallies. IfOk answer (λ done. tallies.items ≡ tallies_of done.0.links.items)))
    → IsJournalled batch s peers accept workers old new after
answered batch s peers accept workers steps old mid new (Ok done) run waiting has (Ok x) finished after is tallies =
    subst (λ r. IsJournalled batch s peers accept workers old new r) (sym is)
    (all_written_of batch s peers accept workers steps old mid new done.0 done.1 waiting x run.crew run.ran run.holds run.made run.one_socket run.held has finished)
answered batch s peers accept workers steps old mid new (Ok done) run waiting has (Err why) finished (Ok x) is tallies = absurd is
answered batch s peers accept workers steps old mid new (Ok done) run waiting has (Err why) finished (Err after) is tallies =
    unwritten batch s peers accept workers steps old mid new done.0 done.1 after waiting why run.crew run.ran run.holds run.made run.one_socket run.held has finished is.0 (is.1, is.2) tallies
answered batch s peers accept workers steps old mid new (Err halted) run waiting has printed finished (Ok x) is tallies = absurd is
answered batch s peers accept workers steps old mid new (Err halted) run waiting has printed finished (Err after) is tallies =
    stopped_as batch s peers accept workers steps old mid new halted after
    (record { crew = run.crew; bad_workers = run.bad_workers; fault = run.fault; full = run.full; tallied = run.tallied; has = run.held; legal = run.legal })
    (is.1, is.2, is.3) waiting has (fault_by halted.fault waiting printed after.fault is.0 finished.1) finished.0
