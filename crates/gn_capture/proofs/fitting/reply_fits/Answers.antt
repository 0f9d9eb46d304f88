use Rattle.std.proofs.Common.{subst}
use Rattle.std.specs.Prelude.{IfSome}
use Rattle.gn_capture.specs.RoundTrip.{IsNumber}
use Rattle.gn_capture.proofs.FittingLemmas.{packetless}
use Rattle.gn_capture.proofs.fitting.reply_fits.Goals as goal

pub returns-in_default : goal.returns-in_default
returns-in_default g c =
    packetless c.args.reply.now c.in_default.not-Routed c.in_default.not-Taken c.in_default.not-Sent
    (subst (λ n. IfSome n IsNumber) c.number.ensures c.number_fits_if.ensures)
