use Rattle.std.proofs.Common.{refl}
use Rattle.gn_service.proofs.any.serve_any.Goals as goal

pub returns-clause-served : goal.returns-clause-served
returns-clause-served g c = record {
  answered = c.serve_past.ensures.served.answered;
  account = c.serve_past.ensures.served.account refl;
}
