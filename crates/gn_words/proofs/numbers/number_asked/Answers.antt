use Rattle.std.proofs.Common.{◌∙◌}
use Rattle.clap.specs.Words.{found_of}
use Rattle.gn_words.specs.Options.{number_between}
use Rattle.gn_words.proofs.WordLemmas.{value_read}
use Rattle.gn_words.proofs.numbers.number_asked.Goals as goal

pub returns : goal.returns
returns c =
    c.number_between.ensures ∙ value_read c.get_str.result (found_of c.args.options.now) c.args.option.now (number_between c.args.least c.args.most) c.get_str.ensures
