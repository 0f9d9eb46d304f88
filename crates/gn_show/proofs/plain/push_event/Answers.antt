use Rattle.gn_show.proofs.PieceLemmas.{◌+>◌}
use Rattle.gn_show.proofs.plain.push_event.Goals as goal

pub returns-in-Admit : goal.returns-in-Admit
returns-in-Admit c = rw c.in-Admit.is (c.put-in-Admit.ensures +> c.put_number.ensures +> c.put-in-Admit-2.ensures +> c.push_descriptor.ensures)

pub returns-in-Originate : goal.returns-in-Originate
returns-in-Originate c = rw c.in-Originate.is (c.put-in-Originate.ensures +> c.push_descriptor-in-Originate.ensures)
