use Rattle.gn_capture.proofs.RoundTripLemmas.{written_is_read}
use Rattle.gn_capture.proofs.laws.written_is_read.Goals as goal

pub returns-clause-all : goal.returns-clause-all
returns-clause-all g c = written_is_read

pub returns-clause-these : goal.returns-clause-these
returns-clause-these g c = written_is_read c.args.config.now c.args.steps.now c.own_fits.ensures c.steps_fit.ensures
