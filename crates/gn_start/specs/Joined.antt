-- What the threads of a run give back.
use Rattle.std.specs.Prelude.{◌≡◌, ℕ, true, IfOk}
use Rattle.gn_links.specs.Halves.{ReadHalf, Source, WrittenHalf}
use Rattle.gn_bodies.specs.Done.{Half, IsReaderDone, IsWriterDone, reader_ended, writer_ended}
use Rattle.gn_bodies.specs.Written.{WriterSteps}
use Rattle.gn_bodies.specs.declared.reader.ReaderDone.{ReaderDone}
use Rattle.gn_bodies.specs.declared.worker.WorkerDone.{WorkerDone}
use Rattle.gn_bodies.specs.declared.writer.WriterDone.{WriterDone}
use Rattle.gn_report.specs.Accounts.{is_routing}

-- what a reader's thread gives back that began with this half: the actor is the one of this number, and the body kept its promise
pub record IsReaderJoined {Rd B A O : Type 0} (state : Rd → ReadHalf) (made_of : Rd → O) (gives : O → Source) (turns actor : ℕ)
    (half : Half Rd) (result : ReaderDone Rd B A) : Type 0 where
  pub number : result.actor.number ≡ actor
  pub role : result.role ≡ half.role
  pub done : IsReaderDone state made_of gives turns half (reader_ended result)

-- the same of a writer's thread; and its steps are as its end says
pub record IsWriterJoined {W B A O : Type 0} (state : W → WrittenHalf) (made_of : W → O) (batch actor : ℕ) (half : Half W)
    (result : WriterDone W B A) : Type 0 where
  pub number : result.actor.number ≡ actor
  pub done : IsWriterDone state made_of batch half (writer_ended result)
  pub steps : IfOk result.end
      (λ end. WriterSteps half.role end result.connection result.found_closed result.idle result.actor.receipts)

-- what a worker's thread gives back: the actor is the one of this number, and routed alone
pub record IsWorkerJoined {B A : Type 0} (actor : ℕ) (result : WorkerDone B A) : Type 0 where
  pub number : result.actor.number ≡ actor
  pub routed : is_routing result.actor.receipts ≡ true
