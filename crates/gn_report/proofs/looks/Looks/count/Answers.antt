use Rattle.gn_report.proofs.CountsLemmas.{counted_one}
use Rattle.gn_report.proofs.looks.Looks.count.Goals as goal

pub returns : goal.returns
returns g c =
    counted_one c.args.self.now c.args.link.now _ _ _ _ _ _ c.is_calling-calls.ensures c.has_drained-drained.ensures c.has_found_closed-found.ensures c.later-read_until.ensures c.later-called_until.ensures c.earlier-drained_from.ensures.old c.earlier-drained_from.ensures.new
