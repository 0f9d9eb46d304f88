use Rattle.std.proofs.Common.{arith}
use Rattle.gn_payload.proofs.PongLemmas.{pong_in_bytes}
use Rattle.gn_payload.proofs.Encoded.{pong_encoded}
use Rattle.gn_payload.proofs.pong.encode_pong.Goals as goal

pub returns-clause-bytes : goal.returns-clause-bytes
returns-clause-bytes c =
    pong_in_bytes c.args.pong.now.ip c.little_u16-port.result c.little_u32-files.result c.little_u32-kbytes.result _ _ _ _ _ _ _ _ _ _ (omega arith) c.little_u16-port.ensures c.little_u32-files.ensures c.little_u32-kbytes.ensures

pub returns-clause-read : goal.returns-clause-read
returns-clause-read c = pong_encoded c.args.pong.now (omega arith) (omega arith) (omega arith) (omega arith)
