use Rattle.std.proofs.Common.{◌∙◌, sym}
use Rattle.clap.specs.Words.{found_of}
use Rattle.gn_text.specs.Addresses.{ip_of}
use Rattle.gn_words.proofs.WordLemmas.{value_read}
use Rattle.gn_words.proofs.site.asked_ip.Goals as goal

pub returns-in-Some : goal.returns-in-Some
returns-in-Some c =
    sym (value_read c.get_str.result (found_of c.args.options.now) c.args.option.now.name.now ip_of c.get_str.ensures) ∙ sym c.in_ok-ip.ensures ∙ c.in-Some.is

pub returns-in-None : goal.returns-in-None
returns-in-None c =
    sym (value_read c.get_str.result (found_of c.args.options.now) c.args.option.now.name.now ip_of c.get_str.ensures) ∙ sym c.in_ok-ip.ensures ∙ c.in-None.is
