use Rattle.gn_show.proofs.PieceLemmas.{◌>>◌}
use Rattle.gn_show.proofs.TokenLemmas.{text_then}
use Rattle.gn_show.proofs.payload_json.put_query.Goals as goal

pub returns : goal.returns
returns c = simp text_then (c.begin_object.ensures >> (rw c.from.ensures at c.put_number.ensures) >> c.put_hex.ensures >> c.put_words.ensures >> c.end_object.ensures)
