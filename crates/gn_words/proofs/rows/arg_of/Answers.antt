use Rattle.std.proofs.Common.{◌∙◌, ap, Some}
use Rattle.clap.specs.Words.{Rule, rule_of}
use Rattle.gn_words.specs.Rows.{lettered, taking}
use Rattle.gn_words.proofs.rows.arg_of.Goals as goal

pub returns-clause-rule : goal.returns-clause-rule
returns-clause-rule c =
    let row = c.args.row.now in
    let named = ap rule_of c.help-named.ensures ∙ ap rule_of c.long.ensures ∙ ap (λ (r : Rule). record r { long = Some row.name.now }) c.new.ensures.rule in
    c.with_value.ensures.rule ∙ ap (λ (r : Rule). taking r row.takes) (c.with_letter.ensures.rule ∙ ap (λ (r : Rule). lettered r row.letter) named)
