use Rattle.std.proofs.Common.{arith}
use Rattle.gn_payload.proofs.Encoded.{push_encoded}
use Rattle.gn_payload.proofs.push.write_push.Goals as goal

pub returns-clause-read : goal.returns-clause-read
returns-clause-read g c = push_encoded c.args.push.now (omega arith) (omega arith) (omega arith) (omega arith)
