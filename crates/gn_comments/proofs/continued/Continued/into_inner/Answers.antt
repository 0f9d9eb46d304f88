use Rattle.gn_comments.proofs.RestLemmas.{written_rest}
use Rattle.gn_comments.proofs.continued.Continued.into_inner.Goals as goal

pub returns-clause-rest : goal.returns-clause-rest
returns-clause-rest g c =
    written_rest g.B.Naming.begun (g.W.Sink.state c.args.self.sink.now) c.args.self.text.items c.args.self.left.items c.args.self.rest.items c.args.self.parted c.args.self.written
