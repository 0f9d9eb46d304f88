use Rattle.std.proofs.Common.{◌∙◌, map}
use Rattle.gn_capture.proofs.CountedLemmas.{counted_plain}
use Rattle.gn_capture.proofs.reply.read_counted.Goals as goal

pub returns-in_default : goal.returns-in_default
returns-in_default g c =
    c.read_plain.ensures
    ∙ counted_plain (map (λ x. x.now) c.args.fields.now) c.args.counter c.in_default.not-Routed c.in_default.not-Taken c.in_default.not-Sent
