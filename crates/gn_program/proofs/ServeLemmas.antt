-- What a serve answers, from what the run answered.
use Rattle.std.proofs.Common.{◌≡◌, ◌∙◌, ◌⊎◌, ◌+◌, ℕ, Bool, false, true, List, [], length, IfErr, OnOk, Option, None, Some, Result, Ok, Err, ap, inl, inr, refl, sym, subst, is_some, not, ◌&&◌, ◌||◌}
use Rattle.std.specs.Prelude.{IfSome}
use Rattle.std.specs.declared.alloc.Global.{Global}
use Rattle.std.specs.declared.net.socket_addr.SocketAddr.{SocketAddr}
use Rattle.std.proofs.lemmas.Result.{IfErr-weaker}
use Rattle.std.proofs.lemmas.List.{length-map}
use Rattle.gn_comments.proofs.RestLemmas.{nothing_left, nothing_rested}
use Rattle.gn_comments.proofs.SinkLemmas.{nothing_both, nothing_said}
use Rattle.gn_comments.specs.Rests.{HasWrittenRest, with_all}
use Rattle.gn_comments.specs.Sinks.{HasWrittenBoth, without_comments}
use Rattle.gn_io.specs.Streams.{NoWriteFailed, SinkState}
use Rattle.gn_rules.specs.Limits.{IsCrew}
use Rattle.gn_rules.specs.declared.config.Config.{Config}
use Rattle.gn_load.proofs.JournalLemmas.{nothing_yet}
use Rattle.gn_load.specs.Journalled.{AppendsSomeLegalPart}
use Rattle.gn_load.specs.Any.{AppendsTaken, AppendsTakenPart, IsJournalledTaken, IsTakenFault}
use Rattle.gn_load.specs.declared.serve_fault.ServeFault.{ServeFault}
use Rattle.gn_load.specs.declared.serve_fault.ServeFault.TheVariants.{Run}
use Rattle.gn_load.specs.declared.serve_halted.ServeHalted.{ServeHalted}
use Rattle.gn_load.specs.declared.taken.Taken.{Taken}
use Rattle.gn_start.specs.Faults.{IsArrivingFault}
use Rattle.gn_start.specs.declared.fault.RunFault.{RunFault}
use Rattle.gn_start.specs.declared.fault.RunFault.TheVariants.{Listen, NoMemory}
use Rattle.gn_program.specs.Serves.{AppendsAsked, AppendsAskedPart, IsBeside, IsServeAnswer, IsServing, IsWritten}
use Rattle.gn_program.specs.Runs.{IsWhole}
use Rattle.gn_program.specs.Served.{served_by}
use Rattle.gn_program.specs.Limits.{calls_again, goes_on}
use Rattle.gn_program.specs.Peers.{AreAt, peer_at}
use Rattle.gn_service.specs.Ran.{Remembered}
use Rattle.gn_program.specs.Serve.{AskedServe}
use Rattle.gn_words.specs.declared.peers.Peer.{Peer}

-- a sink to which nothing was written, beside itself
pub beside_itself : (has : Bool) (sink : SinkState) → IsBeside has sink sink sink
beside_itself false sink = refl
beside_itself true sink = ([], sym (nothing_said sink), nothing_both sink)

-- so whether or not it is a rest
pub written_itself : (goes has : Bool) (sink : SinkState) → IsWritten goes has sink sink sink
written_itself false has sink = beside_itself has sink
written_itself true has sink = record {
  bare = sink;
  text = [];
  comments = [];
  rest = nothing_rested sink;
  whole = sym (nothing_left sink);
  beside = sym (nothing_said sink);
  both = nothing_both sink;
}

module _ (J : SinkState → SinkState → Type 0) where
  -- what holds of a sink to which a rest was written, with all of the text
  pub as_rest : (begun old first mid new : SinkState) (text : List ℕ) → old ≡ begun → first ≡ begun → mid ≡ new → HasWrittenRest begun mid text → J first (with_all begun mid text)
      → (text : List ℕ) × HasWrittenRest old new text × J old (with_all old new text)
  as_rest begun old first mid new text e₀ e₁ e₂ rest ran = (
    text,
    subst (λ old. HasWrittenRest old new text) (sym e₀) (subst (λ new. HasWrittenRest begun new text) e₂ rest),
    subst (λ old. J old (with_all old new text)) (sym e₀) (subst (λ new. J begun (with_all begun new text)) e₂ (subst (λ first. J first (with_all begun mid text)) e₁ ran)),
  )

  -- what holds of a sink without its comments, which a text was written to
  pub as_commented : (begun old first mid new : SinkState) (text : List ℕ) → old ≡ begun → first ≡ begun → mid ≡ new → HasWrittenBoth begun mid text → J first (without_comments begun mid text)
      → (text : List ℕ) × HasWrittenBoth old new text × J old (without_comments old new text)
  as_commented begun old first mid new text e₀ e₁ e₂ both ran = (
    text,
    subst (λ old. HasWrittenBoth old new text) (sym e₀) (subst (λ new. HasWrittenBoth begun new text) e₂ both),
    subst (λ old. J old (without_comments old new text)) (sym e₀) (subst (λ new. J begun (without_comments begun new text)) e₂ (subst (λ first. J first (without_comments begun mid text)) e₁ ran)),
  )

-- a serve that goes on with a history is one of any number of callers
none_of : (resumes : Bool) (accept : Option ℕ) → (resumes && not (is_some accept)) ≡ true → accept ≡ None
none_of true None is = refl
none_of true (Some accept) is = absurd (cc is)
none_of false accept is = absurd (cc is)

pub goes_on_any : (serving : AskedServe) → goes_on serving ≡ true → serving.accept ≡ None
goes_on_any serving is = none_of serving.resumes serving.accept is

module _ (J : Bool → Option ℕ → SinkState → Type 0) where
  -- what holds of a router that goes on with a history, without comments
  pub went_on : (goes : Bool) (accept : Option ℕ) (old new : SinkState) → goes ≡ true → accept ≡ None
      → (text : List ℕ) × HasWrittenRest old new text × J true None (with_all old new text)
      → (all : SinkState) × IsWhole goes old all new × J goes accept all
  went_on true None old new is none ran = (with_all old new ran.0, (ran.0, ran.1, refl), ran.2)
  went_on true (Some accept) old new is none ran = absurd (cc none)
  went_on false accept old new is none ran = absurd (cc is)

  -- and of one that doesn't
  pub went_anew : (goes : Bool) (accept : Option ℕ) (old new : SinkState) → goes ≡ false → J false accept new
      → (all : SinkState) × IsWhole goes old all new × J goes accept all
  went_anew false accept old new is ran = (new, refl, ran)
  went_anew true accept old new is ran = absurd (cc is)

module _ (J : SinkState → Type 0) where
  -- what holds of a router whose history was written with comments
  pub with_comments : (goes has : Bool) (old new : SinkState) → (goes || has) ≡ true
      → (text : List ℕ) × HasWrittenBoth old new text × ((all : SinkState) × IsWhole goes old all (without_comments old new text) × J all)
      → (all : SinkState) × IsWritten goes has old all new × J all
  with_comments true has old new is ran =
      let whole = ran.2.1 in (
        ran.2.0,
        record { bare = without_comments old new ran.0; text = whole.0; comments = ran.0; rest = whole.1; whole = whole.2; beside = refl; both = ran.1 },
        ran.2.2,
      )
  with_comments false true old new is ran = (ran.2.0, (ran.0, ran.2.1, ran.1), ran.2.2)
  with_comments false false old new is ran = cc

  -- and of one that has none
  pub with_none : (goes has : Bool) (old new : SinkState) → (goes || has) ≡ false → (all : SinkState) × IsWhole goes old all new × J all
      → (all : SinkState) × IsWritten goes has old all new × J all
  with_none false false old new is ran = ran
  with_none true has old new is ran = cc
  with_none false true old new is ran = cc

-- a fault where the number of workers is one that a run may have
known : (peers : ℕ) (accept : Option ℕ) (workers : ℕ) (sink sink_new : SinkState) (answer : Result (Unit {0}) ServeFault) → IsCrew workers
    → IfErr answer (λ fault. IsCrew workers → IsTakenFault peers accept workers fault sink sink_new) → IfErr answer (λ fault. IsTakenFault peers accept workers fault sink sink_new)
known peers accept workers sink sink_new (Ok done) within fault = tt
known peers accept workers sink sink_new (Err e) within fault = fault within

-- the text of a run that is remembered was written, over links that are called at the peers' addresses
pub asked : (serving : AskedServe) (settings : Config) (called : List SocketAddr) (ran : Remembered Global) (old new : Option (List ℕ))
    → AreAt serving.peers called → AppendsTaken Global (goes_on serving) (calls_again serving) (is_some serving.ping) serving.batch settings called serving.accept serving.workers ran old new → AppendsAsked serving settings (Some ran) old new
asked serving settings called ran old new at has = (called, at, ran, refl, has)

-- so was a prefix of it
asked_part : (serving : AskedServe) (settings : Config) (called : List SocketAddr) (remembered : Option (Remembered Global)) (old new : Option (List ℕ)) → AreAt serving.peers called
    → IfSome remembered (λ _. AppendsTakenPart Global (goes_on serving) (calls_again serving) (is_some serving.ping) serving.batch settings called serving.accept serving.workers remembered old new) → IfSome remembered (λ _. AppendsAskedPart serving settings remembered old new)
asked_part serving settings called None old new at has = tt
asked_part serving settings called (Some ran) old new at has = (called, at, has)

-- all that is answered, of a run over links that are called at the peers' addresses
pub answered : (serving : AskedServe) (settings : Config) (called : List SocketAddr) (remembered : Option (Remembered Global)) (sink sink_new : SinkState) (answer : Result (Unit {0}) ServeFault)
    → IsServing serving settings → AreAt serving.peers called → length called ≡ length serving.peers → IsCrew serving.workers → OnOk answer (NoWriteFailed sink sink_new)
    → OnOk answer (AppendsAsked serving settings remembered sink.written sink_new.written)
    → IfErr answer (λ _. AppendsSomeLegalPart Global settings sink.written sink_new.written)
    → IfErr answer (λ _. IfSome remembered (λ _. AppendsTakenPart Global (goes_on serving) (calls_again serving) (is_some serving.ping) serving.batch settings called serving.accept serving.workers remembered sink.written sink_new.written))
    → IfErr answer (λ fault. IsCrew serving.workers → IsTakenFault (length called) serving.accept serving.workers fault sink sink_new)
    → IsServeAnswer serving sink sink_new answer remembered
answered serving settings called remembered sink sink_new answer configured at many within unfailed written stopped part fault =
    record {
      settings = settings;
      configured = configured;
      unfailed = unfailed;
      written = written;
      stopped = stopped;
      part = IfErr-weaker _ _ _ (λ fault has. asked_part serving settings called remembered sink.written sink_new.written at has) part;
      fault = known (length serving.peers) serving.accept serving.workers sink sink_new answer within
          (subst (λ n. IfErr answer (λ fault. IsCrew serving.workers → IsTakenFault n serving.accept serving.workers fault sink sink_new)) many fault);
    }

-- the addresses of peers are as many as those
as_many : (peers : List Peer) (called : List SocketAddr) → AreAt peers called → length called ≡ length peers
as_many peers called at = sym (length-map called peer_at) ∙ ap (λ xs. length xs) at ∙ length-map peers Some

-- all that is answered where a run answered so, over links that are called at the peers' addresses
pub ended : (serving : AskedServe) (settings : Config) (called : List SocketAddr) (old all : SinkState)
    (answer : Result (Taken Global × Remembered Global) (ServeHalted Global)) → IsServing serving settings → AreAt serving.peers called → IsCrew serving.workers
    → IsJournalledTaken (goes_on serving) (calls_again serving) (is_some serving.ping) serving.batch settings called serving.accept serving.workers old all answer
    → IsServeAnswer serving old all (served_by answer).answer (served_by answer).ran
ended serving settings called old all (Ok done) configured at within told =
    answered serving settings called (Some done.1) old all (Ok tt) configured at (as_many _ _ at) within told.unfailed
    (asked serving settings called done.1 old.written all.written at told.written) tt tt tt
ended serving settings called old all (Err halted) configured at within told =
    answered serving settings called halted.ran old all (Err halted.fault) configured at (as_many _ _ at) within tt tt (halted.history, told.part) told.remembered
    told.fault

-- a fault that any run may have is one of this run
of_any_run : (peers : ℕ) (accept : Option ℕ) (workers : ℕ) (fault : RunFault) (sink : SinkState) → ((links : ℕ) → IsArrivingFault true links workers fault)
    → IsTakenFault peers accept workers (Run fault) sink sink
of_any_run peers None workers fault sink may = (0, may 0)
of_any_run peers (Some accept) workers fault sink may = may (peers + accept)

-- a run may have these faults
any_may : (workers : ℕ) (fault : RunFault) → (fault ≡ NoMemory) ⊎ (fault ≡ Listen) → (links : ℕ) → IsArrivingFault true links workers fault
any_may workers fault (inl is) links = subst (IsArrivingFault true links workers) (sym is) tt
any_may workers fault (inr is) links = subst (IsArrivingFault true links workers) (sym is) refl

-- all that is answered where there was no run
pub unserved : (serving : AskedServe) (settings : Config) (sink : SinkState) (fault : RunFault) → IsServing serving settings → (fault ≡ NoMemory) ⊎ (fault ≡ Listen)
    → IsServeAnswer serving sink sink (Err (Run fault)) None
unserved serving settings sink fault configured is =
    record {
      settings = settings;
      configured = configured;
      unfailed = tt;
      written = tt;
      stopped = (None, nothing_yet Global settings sink.written);
      part = tt;
      fault = of_any_run (length serving.peers) serving.accept serving.workers fault sink (any_may serving.workers fault is);
    }
