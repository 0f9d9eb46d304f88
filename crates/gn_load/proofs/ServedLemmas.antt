-- The history of a run over TCP.
use Rattle.std.proofs.Common.{◌≡◌, ◌∙◌, ◌↔◌, ◌+◌, ℕ, Bool, true, List, [], length, reverse, refl, ap, sym, subst, inl, inr, Option, Some, None, OnOk, OnErr, Result, Ok, Err, append-nil}
use Rattle.gn_io.specs.Parts.{AppendsPart}
use Rattle.gn_printed.specs.declared.printed.PrintFault.{PrintFault}
use Rattle.gn_rules.specs.Answer.{IsLegal}
use Rattle.gn_rules.specs.Limits.{IsCrew}
use Rattle.gn_rules.specs.declared.config.Config.{Config}
use Rattle.gn_rules.specs.declared.receipt.Step.{Step}
use Rattle.gn_sockets.specs.TcpHalves.{TcpReading, TcpWriting, half_read, half_written}
use Rattle.gn_report.specs.declared.report.Report.{Report}
use Rattle.gn_capture.specs.Histories.{history_text}
use Rattle.gn_threads.specs.Headline.{AreMadeOf, AreOfOne, Holds}
use Rattle.gn_start.specs.declared.fault.RunFault.{RunFault}
use Rattle.gn_start.specs.declared.fault.RunFault.TheVariants.{Audit, BadWorkers, Call, HistoryFull, Link, Listen, NoMemory, Stage}
use Rattle.std.specs.Io.KnownBytes.{Appends, Keeps}
use Rattle.std.specs.declared.net.socket_addr.SocketAddr.{SocketAddr}
use Rattle.gn_io.specs.Streams.{SinkState}
use Rattle.gn_load.specs.Served.{AppendsServed, AppendsServedPart, AppendsSomePart, HasKept, HasServeStopped, IsHistoryKept, IsHistoryServed, IsServedText}
use Rattle.gn_load.specs.declared.serve_stopped.ServeStopped.{ServeStopped}
use Rattle.gn_load.specs.declared.serve_fault.ServeFault.{ServeFault}
use Rattle.gn_load.specs.declared.serve_fault.ServeFault.TheVariants.{Run, Write}
use Rattle.gn_service.specs.Links.{origins_of, roles_of}
use Rattle.gn_service.specs.Ran.{Remembered, ran_of}

-- bytes that stay are kept
pub kept : (old : Option (List ℕ)) → Keeps old old
kept None = _
kept (Some xs) = refl

module _ {A : Type 0} (batch : ℕ) (s : Config) (peers : List SocketAddr) (accept workers : ℕ) (report : Report TcpReading TcpWriting A) (ran : Remembered A)
    (remembered : ran ≡ ran_of report)
    (holds : Holds batch half_read half_written s (roles_of (length peers) (length peers + accept)) workers report)
    (made : AreMadeOf (λ half. half.origin) (λ half. half.origin) (origins_of peers (length peers + accept)) report)
    (one_socket : AreOfOne (λ half. half.socket) (λ half. half.socket) report) where
  -- the text of its history
  served : IsServedText A batch s peers accept workers ran (history_text s ran.steps)
  served = record { report = report; remembered = remembered; holds = holds; made = made; one_socket = one_socket; printed = refl }

  -- it was written
  pub written : (steps : List (Step A)) (old new : Option (List ℕ)) → steps ≡ report.history.items → Appends old new (history_text s steps)
      → AppendsServed A batch s peers accept workers ran old new
  written steps old new same whole =
      (history_text s ran.steps, served, subst (λ (xs : List (Step A)). Appends old new (history_text s xs)) (same ∙ sym (ap (λ (r : Remembered A). r.steps) remembered)) whole)

  -- a prefix of it was
  pub written_part : (steps : List (Step A)) (old new : Option (List ℕ)) → steps ≡ report.history.items → AppendsPart old new (history_text s steps)
      → AppendsServedPart A batch s peers accept workers (Some ran) old new
  written_part steps old new same part =
      (ran, refl, history_text s ran.steps, served, subst (λ (xs : List (Step A)). AppendsPart old new (history_text s xs)) (same ∙ sym (ap (λ (r : Remembered A). r.steps) remembered)) part)

-- a history that is kept was written, whole or up to where that failed
pub kept_part : {A : Type 0} (s : Config) (is_kept : Bool) (fault : RunFault) (steps : List (Step A)) (old new : Option (List ℕ)) (r : Result (Unit {0}) PrintFault)
    → is_kept ≡ true → IsLegal s (reverse steps) → (fault ≡ HistoryFull → length steps ≡ s.numbers.steps) → OnOk r (Appends old new (history_text s steps)) → OnErr r (AppendsPart old new (history_text s steps))
    → HasKept A is_kept s fault old new
kept_part s is_kept fault steps old new (Ok done) set legal full whole part =
    inr (set, history_text s steps, record { steps = steps; legal = legal; full = full; printed = refl }, ([], (history_text s steps, whole, append-nil (history_text s steps))))
kept_part s is_kept fault steps old new (Err e) set legal full whole part =
    inr (set, history_text s steps, record { steps = steps; legal = legal; full = full; printed = refl }, part)

-- where a run has no report, what is kept of its history was written
pub kept_written : (A : Type 0) (Part : Option (List ℕ) → Option (List ℕ) → Type 0) (is_kept : Bool) (s : Config) (fault : RunFault) (old new : Option (List ℕ))
    → HasKept A is_kept s fault old new → HasServeStopped A Part is_kept s (Run fault) old new
kept_written A Part is_kept s BadWorkers old new has = has
kept_written A Part is_kept s Listen old new has = has
kept_written A Part is_kept s (Call peer) old new has = has
kept_written A Part is_kept s (Link link) old new has = has
kept_written A Part is_kept s HistoryFull old new has = has
kept_written A Part is_kept s NoMemory old new has = inl has
kept_written A Part is_kept s (Stage fault) old new has = has
kept_written A Part is_kept s (Audit actor) old new has = has

-- or nothing
pub none_written : (A : Type 0) (Part : Option (List ℕ) → Option (List ℕ) → Type 0) (is_kept : Bool) (s : Config) (fault : RunFault) (old : Option (List ℕ))
    → HasServeStopped A Part is_kept s (Run fault) old old
none_written A Part is_kept s fault old = kept_written A Part is_kept s fault old old (inl (kept old))

-- what was written is said, too, by less of a history with a report
pub stopped_less : (A : Type 0) (Part Less : Option (List ℕ) → Option (List ℕ) → Type 0) (is_kept : Bool) (s : Config) (fault : ServeFault) (old new : Option (List ℕ))
    → (Part old new → Less old new) → HasServeStopped A Part is_kept s fault old new → HasServeStopped A Less is_kept s fault old new
stopped_less A Part Less is_kept s Write old new less has = less has
stopped_less A Part Less is_kept s (Run NoMemory) old new less (inl has) = inl has
stopped_less A Part Less is_kept s (Run NoMemory) old new less (inr has) = inr (less has)
stopped_less A Part Less is_kept s (Run BadWorkers) old new less has = has
stopped_less A Part Less is_kept s (Run Listen) old new less has = has
stopped_less A Part Less is_kept s (Run (Call peer)) old new less has = has
stopped_less A Part Less is_kept s (Run (Link link)) old new less has = has
stopped_less A Part Less is_kept s (Run HistoryFull) old new less has = has
stopped_less A Part Less is_kept s (Run (Stage fault)) old new less has = has
stopped_less A Part Less is_kept s (Run (Audit actor)) old new less has = has

-- a fault of a run is BadWorkers where the serve's is
pub run_is : (fault : RunFault) (P : Type 0) → (fault ≡ BadWorkers) ↔ P → (Run fault ≡ Run BadWorkers) ↔ P
run_is fault P same = ((λ is. let e : fault ≡ BadWorkers = cc in same.0 e), (λ p. ap (λ (f : RunFault). Run f) (same.1 p)))

-- a full history of the serve is one of the run
pub is_full : {fault : RunFault} → Run fault ≡ Run HistoryFull → fault ≡ HistoryFull
is_full is = cc

-- a history that wasn't written is none of the workers
pub write_is_other : (workers : ℕ) → IsCrew workers → (Write ≡ Run BadWorkers) ↔ (¬ IsCrew workers)
write_is_other workers within = ((λ is. absurd (cc)), (λ none. absurd (none within)))

-- nor is memory that ran out
pub memory_is_other : (workers : ℕ) → IsCrew workers → (Run NoMemory ≡ Run BadWorkers) ↔ (¬ IsCrew workers)
memory_is_other workers within = ((λ is. absurd (cc)), (λ none. absurd (none within)))

module _ {A : Type 0} (batch : ℕ) (s : Config) (peers : List SocketAddr) (accept workers : ℕ) (is_kept : Bool) (old new : SinkState) where
  -- what is answered of a run that is remembered, without what is
  pub unremembered : (report : Report TcpReading TcpWriting A) (ran : Remembered A) → IsHistoryKept batch s peers accept workers is_kept old new (Ok (report, ran))
      → IsHistoryServed batch s peers accept workers is_kept old new (Ok report)
  unremembered report ran h =
      record {
        crew = h.crew;
        bad_workers = tt;
        fault = tt;
        written = subst (λ r. AppendsServed A batch s peers accept workers r old.written new.written) h.ran h.written;
        report = h.report;
        unfailed = h.unfailed;
        holds = h.holds;
        made = h.made;
        one_socket = h.one_socket;
        stopped = tt;
      }

  -- the same where it stopped
  pub unremembered_fault : (stopped : ServeStopped A) → IsHistoryKept batch s peers accept workers is_kept old new (Err stopped)
      → IsHistoryServed {A = A} batch s peers accept workers is_kept old new (Err stopped.fault)
  unremembered_fault stopped h =
      record {
        crew = tt;
        bad_workers = h.bad_workers;
        fault = h.fault;
        written = tt;
        report = tt;
        unfailed = tt;
        holds = tt;
        made = tt;
        one_socket = tt;
        stopped =
            stopped_less A (AppendsServedPart A batch s peers accept workers stopped.ran) (AppendsSomePart A batch s peers accept workers) is_kept s stopped.fault
            old.written new.written (λ part. (stopped.ran, part)) h.stopped;
      }
