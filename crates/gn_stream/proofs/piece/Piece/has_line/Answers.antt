use Rattle.gn_stream.proofs.PieceLemmas.{none_found, some_found}
use Rattle.gn_stream.proofs.piece.Piece.has_line.Goals as goal

pub returns-in-Some-clause-some : goal.returns-in-Some-clause-some
returns-in-Some-clause-some g c = λ _. some_found c.left.result.now c.args.self.now.held c.left.ensures c.in-Some.field-0 (rw c.in-Some.is at c.memchr.ensures)

pub returns-in-None-clause-none : goal.returns-in-None-clause-none
returns-in-None-clause-none g c = λ _. none_found c.left.result.now c.args.self.now.held c.left.ensures (rw c.in-None.is at c.memchr.ensures)
