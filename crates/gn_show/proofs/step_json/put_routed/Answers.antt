use Rattle.gn_show.proofs.PieceLemmas.{◌>>◌}
use Rattle.gn_show.proofs.step_json.put_routed.Goals as goal

pub returns : goal.returns
returns c = c.begin_object.ensures >> c.put_text.ensures >> c.put_flag.ensures >> c.put_name.ensures >> c.put_sends.ensures >> c.end_object.ensures
