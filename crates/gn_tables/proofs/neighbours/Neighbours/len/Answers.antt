use Rattle.std.proofs.Common.{subst}
use Rattle.gn_tables.specs.Outputs.{AreOutputs}
use Rattle.gn_tables.proofs.OutputLemmas.{outputs_are}
use Rattle.gn_tables.proofs.neighbours.Neighbours.len.Goals as goal

pub returns-clause-kept : goal.returns-clause-kept
returns-clause-kept g c = subst AreOutputs c.self.view_is (outputs_are c.self.inside.most c.self.inside.room c.self.inside.rows.items c.self.invariant)
