use Rattle.gn_show.proofs.PieceLemmas.{◌>>◌}
use Rattle.gn_show.proofs.step_json.put_admit.Goals as goal

pub returns : goal.returns
returns c = c.begin_object.ensures >> c.put_number.ensures >> c.put_name.ensures >> c.put_descriptor.ensures >> c.put_text.ensures >> c.end_object.ensures
