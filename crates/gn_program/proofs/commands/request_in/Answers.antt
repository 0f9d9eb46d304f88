use Rattle.std.proofs.Common.{◌≡◌, sym, subst, Option, None, Err}
use Rattle.clap.specs.Words.{found_of, rows_of}
use Rattle.gn_words.specs.Options.{IsReadAs}
use Rattle.gn_program.specs.Commands.{request_named}
use Rattle.gn_program.specs.declared.request.Request.{Request}
use Rattle.gn_program.proofs.WordLemmas.{asks, mistaken}
use Rattle.gn_program.proofs.commands.request_in.Goals as goal

pub returns-in-Ok-clause-ok : goal.returns-in-Ok-clause-ok
returns-in-Ok-clause-ok c = asks _ _ _ _ (sym c.in-Some.ensures.name) (sym c.in-Some.ensures.rows) c.in-Ok.ensures

pub returns-in_ok-mistake-in-Err-Mistake-clause-err : goal.returns-in_ok-mistake-in-Err-Mistake-clause-err
returns-in_ok-mistake-in-Err-Mistake-clause-err c =
    let asked : Option Request = request_named c.in-Some.name.now (rows_of (found_of c.in-Some.options.now)) in
    let none : asked ≡ None = subst (λ e. IsReadAs {T = Request} (λ r. r) asked (Err e)) c.in-Err-Mistake.field-0-is c.in-Err-Mistake.ensures in
    mistaken _ _ _ c.in_ok-mistake-in-Err-Mistake.field-0 (sym c.in-Some.ensures.name) (sym c.in-Some.ensures.rows) none c.in_ok-mistake-in-Err-Mistake.ensures
