use Rattle.std.proofs.Common.{arith, ◌∙◌, ◌≡◌, ◌<◌, ◌≤◌, length, true}
use Rattle.std.proofs.lemmas.Grind.{common_steps}
use Rattle.std.specs.Char.{is_ascii_digit}
use Rattle.std.specs.List.{list_all}
use Rattle.gn_numbers.proofs.NumberLemmas.{number_read, numeral_is, digits_are_text}
use Rattle.gn_numbers.proofs.numbers.number_parsed.Goals as goal

pub returns-in-Ok : goal.returns-in-Ok
returns-in-Ok c =
    let field = c.args.field.now in
    let long : 0 < length field = grind (arith, common_steps) in
    let short : length field ≤ 10 = omega arith in
    let digits : list_all is_ascii_digit field ≡ true = grind (arith, common_steps) in
    let parsed = rw c.in-Ok.ensures.cases.0 at c.parse.ensures.value.0 in
    c.ok.ensures.value ∙ number_read field c.parse.result (numeral_is field long short digits) long digits parsed

pub returns-in-Err : goal.returns-in-Err
returns-in-Err c =
    let field = c.args.field.now in
    let digits : list_all is_ascii_digit field ≡ true = grind (arith, common_steps) in
    absurd (c.in-Err.ensures.cases.0 (digits_are_text field digits))
