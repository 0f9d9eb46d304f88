use Rattle.gn_show.proofs.plain.push_reply.Goals as goal

pub returns-in-Connected : goal.returns-in-Connected
returns-in-Connected c = rw c.in-Connected.is c.push_numbered.ensures

pub returns-in-Admitted : goal.returns-in-Admitted
returns-in-Admitted c = rw c.in-Admitted.is c.push_numbered-in-Admitted.ensures
