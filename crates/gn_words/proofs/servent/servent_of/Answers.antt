use Rattle.std.proofs.Common.{◌∙◌, sym, codes}
use Rattle.clap.specs.Words.{found_of}
use Rattle.gn_words.specs.Options.{servent_in}
use Rattle.gn_words.proofs.WordLemmas.{value_read}
use Rattle.gn_words.proofs.servent.servent_of.Goals as goal

pub returns-in-Some : goal.returns-in-Some
returns-in-Some c = sym (value_read c.get_str.result (found_of c.args.options.now) (codes "servent") servent_in c.get_str.ensures) ∙ sym c.servent_named.ensures ∙ c.in-Some.is

pub returns-in-None : goal.returns-in-None
returns-in-None c = sym (value_read c.get_str.result (found_of c.args.options.now) (codes "servent") servent_in c.get_str.ensures) ∙ sym c.servent_named.ensures ∙ c.in-None.is
