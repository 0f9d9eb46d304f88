use Rattle.std.proofs.Common.{◌∙◌, sym, arith}
use Rattle.gn_payload.proofs.Encoded.{query_encoded}
use Rattle.gn_payload.proofs.query.write_query.Goals as goal

pub returns-clause-read : goal.returns-clause-read
returns-clause-read g c =
    query_encoded (record { speed = c.args.speed; text = c.args.text.now; tail = c.args.tail.now }) (omega arith) (sym c.has_zero.ensures ∙ c.if-has_zero.false)
