use Rattle.gn_show.proofs.step_json.put_event.Goals as goal

pub returns-in-Admit : goal.returns-in-Admit
returns-in-Admit c = rw c.in-Admit.is c.put_admit.ensures

pub returns-in-Originate : goal.returns-in-Originate
returns-in-Originate c = rw c.in-Originate.is c.put_whole.ensures
