use Rattle.gn_wire.proofs.ReturnLemmas.{headers_return}
use Rattle.gn_wire.proofs.laws.headers_return.Goals as goal

pub returns : goal.returns
returns c = headers_return
