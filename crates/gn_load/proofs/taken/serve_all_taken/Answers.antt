use Rattle.std.proofs.Common.{is_some}
use Rattle.gn_load.proofs.TakenLemmas.{all_halted, all_taken}
use Rattle.gn_load.proofs.taken.serve_all_taken.Goals as goal

pub returns-in-Ok : goal.returns-in-Ok
returns-in-Ok g c =
    let s = c.args.serve.now in
    all_taken s.accept.again (is_some s.accept.pings) s.batch s.config.now s.peers.now s.workers (g.W.Sink.state c.args.sink.now) (g.W.Sink.state c.serve_journalled.new.sink)
    c.args.accept c.in-Ok.account c.in-Ok.ran (rw c.with.ensures at c.in-Ok.ensures)

pub returns-in-Err : goal.returns-in-Err
returns-in-Err g c =
    let s = c.args.serve.now in
    all_halted s.accept.again (is_some s.accept.pings) s.batch s.config.now s.peers.now s.workers (g.W.Sink.state c.args.sink.now) (g.W.Sink.state c.serve_journalled.new.sink)
    c.args.accept c.in-Err.halted (rw c.with.ensures at c.in-Err.ensures)
