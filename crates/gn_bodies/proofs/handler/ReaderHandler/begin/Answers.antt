use Rattle.std.proofs.Common.{[], refl}
use Rattle.gn_bodies.proofs.handler.ReaderHandler.begin.Goals as goal

pub returns-in-Plain-clause-taken : goal.returns-in-Plain-clause-taken
returns-in-Plain-clause-taken g c = c.connect_and_take.ensures.taken c.args.role [] (rw c.in-Plain.is refl)
