use Rattle.gn_comments.proofs.SinkLemmas.{written_both}
use Rattle.gn_comments.proofs.commented.Commented.into_inner.Goals as goal

pub returns-clause-both : goal.returns-clause-both
returns-clause-both g c =
    written_both g.B.Naming.begun (g.W.Sink.state c.args.self.sink.now) c.args.self.text.items c.args.self.both.items c.args.self.comments.bytes.items c.args.self.done c.args.self.same c.args.self.written c.args.self.whole
