use Rattle.gn_show.proofs.PieceLemmas.{◌>>◌}
use Rattle.gn_show.specs.Tokens.{sending_tokens}
use Rattle.gn_show.proofs.descriptor_json.put_sending.Goals as goal

pub returns : goal.returns
unfolding sending_tokens
returns c = c.begin_object.ensures >> c.put_number.ensures >> c.put_name.ensures >> c.put_descriptor.ensures >> c.put_flag.ensures >> c.end_object.ensures
