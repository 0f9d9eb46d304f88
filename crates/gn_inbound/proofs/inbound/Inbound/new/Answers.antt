use Rattle.gn_inbound.proofs.InboundLemmas.{begun}
use Rattle.gn_inbound.proofs.inbound.Inbound.new.Goals as goal

pub returns-in_ok-new-in-Plain : goal.returns-in_ok-new-in-Plain
returns-in_ok-new-in-Plain g c = rw c.in-Plain.is (begun g.row.A.Denot c.in_ok-new-in-Plain.field-0 c.in_ok-new-in-Plain.ensures)
