use Rattle.gn_io.proofs.StreamLemmas.{appended_leaves}
use Rattle.gn_show.proofs.ShowLemmas.{ok_so}
use Rattle.gn_show.proofs.showing.Showing.write_due.Goals as goal

pub returns-else-has_line-clause-ok : goal.returns-else-has_line-clause-ok
returns-else-has_line-clause-ok g c =
    rw c.write_rest.ensures.empty
    (ok_so c.write_rest.result (appended_leaves (g.W.Sink.state c.args.sink.now).written (g.W.Sink.state c.write_rest.new.sink).written c.args.self.now.block) c.write_rest.ensures.ok)
