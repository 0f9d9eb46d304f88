use Rattle.std.proofs.Common.{sym, ◌∙◌}
use Rattle.gn_text.proofs.PartLemmas.{line_alone, lines_cut}
use Rattle.gn_text.proofs.line.first_line.Goals as goal

pub returns-in-Some-clause-line : goal.returns-in-Some-clause-line
returns-in-Some-clause-line c =
    let cut = rw c.in-Some.is at c.first_part.ensures.cut in
    lines_cut c.args.text.now c.first_part.result.0.now c.in-Some.more.now (sym c.is_empty.ensures ∙ c.if-is_empty.false) cut c.first_part.ensures.unmarked

pub returns-in-None-clause-line : goal.returns-in-None-clause-line
returns-in-None-clause-line c =
    let last = rw c.in-None.is at c.first_part.ensures.last in
    line_alone c.args.text.now c.first_part.result.0.now (sym c.is_empty.ensures ∙ c.if-is_empty.false) last c.first_part.ensures.unmarked
