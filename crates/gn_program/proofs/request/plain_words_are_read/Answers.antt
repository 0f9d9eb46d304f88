use Rattle.gn_program.proofs.WordLemmas.{plain_words}
use Rattle.gn_program.proofs.request.plain_words_are_read.Goals as goal

pub returns : goal.returns
returns c = plain_words
