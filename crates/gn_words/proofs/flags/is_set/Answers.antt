use Rattle.std.proofs.Common.{◌∙◌}
use Rattle.clap.specs.Words.{found_of}
use Rattle.gn_words.proofs.WordLemmas.{flag_read}
use Rattle.gn_words.proofs.flags.is_set.Goals as goal

pub returns : goal.returns
returns c = c.is_true.ensures ∙ flag_read c.get_str.result (found_of c.args.options.now) c.args.flag.now c.get_str.ensures
