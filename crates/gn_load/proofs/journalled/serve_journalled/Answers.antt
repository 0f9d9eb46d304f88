use Rattle.gn_load.proofs.JournalLemmas.{arriving_fault, unbegun}
use Rattle.std.specs.Prelude.{◌+◌, length}
use Rattle.gn_load.proofs.journalled.serve_journalled.Goals as goal

pub returns-in-Err : goal.returns-in-Err
returns-in-Err g c =
    let s = c.args.serve.now in
    unbegun s.batch s.config.now s.peers.now s.accept s.workers (g.W.Sink.state c.args.sink.now) c.unbegun.result c.in-Err.fault c.unbegun.ensures
    c.in-Err.ensures.bad_workers (λ crew. arriving_fault (length s.peers.now + s.accept) s.workers c.in-Err.fault (c.in-Err.ensures.fault crew))
