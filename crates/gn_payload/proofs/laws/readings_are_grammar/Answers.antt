use Rattle.gn_payload.proofs.SoundLemmas.{read_both, readable}
use Rattle.gn_payload.proofs.laws.readings_are_grammar.Goals as goal

pub returns-clause-grammar : goal.returns-clause-grammar
returns-clause-grammar c = read_both

pub returns-clause-sound : goal.returns-clause-sound
returns-clause-sound c = readable
