use Rattle.gn_metrics.proofs.patient.PatientRead.read.Given as goal

abbrev pub decreases-loop-self : goal.decreases-loop-self
decreases-loop-self l = l.self.looks
