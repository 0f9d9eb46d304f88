use denote.Param.Send.{sendable}
use Rattle.gn_runs.proofs.SendLemmas.{reader_send, writer_send}
use Rattle.gn_runs.proofs.memory.runs.run_over_two.Goals as goal

pub run_of-requires-send-K-Reader : goal.run_of-requires-send-K-Reader
run_of-requires-send-K-Reader g c κs within = search (sendable, reader_send) depth 40

pub run_of-requires-send-K-Writer : goal.run_of-requires-send-K-Writer
run_of-requires-send-K-Writer g c κs within = search (sendable, writer_send) depth 40
