use Rattle.std.proofs.Common.{subst}
use Rattle.gn_bodies.specs.Done.{half_of}
use Rattle.gn_start.specs.Joined.{IsReaderJoined, IsWriterJoined}
use Rattle.gn_start.proofs.homing.join.Goals as goal

pub returns-clause-reader : goal.returns-clause-reader
returns-clause-reader g c =
    subst (λ s. IsReaderJoined g.Rd.LinkReader.state g.Rd.LinkReader.made_of g.Rd.LinkReader.gives g.B.Limited.turns s.reader (half_of s.came.role s.came.reader) c.join-reader.result) c.live.view_is c.join-reader.ensures

pub returns-clause-writer : goal.returns-clause-writer
returns-clause-writer g c =
    subst (λ s. IsWriterJoined g.W.LinkWriter.state g.W.LinkWriter.made_of g.B.Limited.batch s.writer (half_of s.other s.came.writer) c.join-writer.result) c.live.view_is c.join-writer.ensures
