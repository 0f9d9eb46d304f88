use Rattle.gn_show.proofs.PieceLemmas.{◌>>◌}
use Rattle.gn_show.proofs.step_json.put_step.Goals as goal

pub returns : goal.returns
returns c = c.begin_object.ensures >> c.put_number.ensures >> c.put_name.ensures >> (rw c.event_name.ensures at c.put_event.ensures) >> c.put_name-2.ensures >> (rw (c.counter_name.ensures, c.of.ensures) at c.put_reply.ensures) >> c.put_number-2.ensures >> c.end_object.ensures
