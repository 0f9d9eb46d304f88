use Rattle.std.proofs.Common.{sym, subst, map, IfErr}
use Rattle.std.proofs.lemmas.Result.{IfErr-weaker, IfOk-weaker, err_from_is_err_and}
use Rattle.clap.specs.Words.{HasKind}
use Rattle.gn_program.specs.Commands.{kinds_of}
use Rattle.gn_program.proofs.WordLemmas.{fails, parses, reads, refuses}
use Rattle.gn_program.proofs.commands.read_words.Goals as goal

pub returns-in_err-matches-clause-err : goal.returns-in_err-matches-clause-err
returns-in_err-matches-clause-err g c =
    let words = map g.T.AsStr.text c.args.words.now in
    let handed_on = err_from_is_err_and c.from_residual-in_err-matches.result c.from_residual-in_err-matches.ensures.1 in
    subst (λ r. IfErr r (HasKind (kinds_of words))) (sym handed_on.1) (subst (HasKind (kinds_of words)) (sym handed_on.2)
    (fails c.in_ok-gn_command.field-0 words c.in_err-matches.field-0.0 c.in_ok-gn_command.ensures c.in_err-matches.ensures.kinds))

pub request_in-requires : goal.request_in-requires
request_in-requires g c =
    (parses c.in_ok-gn_command.field-0 c.in_ok-matches.matches (map g.T.AsStr.text c.args.words.now) c.in_ok-gn_command.ensures
    c.in_ok-matches.ensures.parsed c.in_ok-matches.ensures.matches c.in_ok-matches.ensures.kinds).has

pub returns : goal.returns
returns g c =
    let words = map g.T.AsStr.text c.args.words.now in
    let matches = c.in_ok-matches.matches in
    let known = parses c.in_ok-gn_command.field-0 matches words c.in_ok-gn_command.ensures
    c.in_ok-matches.ensures.parsed c.in_ok-matches.ensures.matches c.in_ok-matches.ensures.kinds in record {
      ok = IfOk-weaker c.request_in.result _ _ (λ request. reads matches words request known) c.request_in.ensures.ok;
      err = IfErr-weaker c.request_in.result _ _ (λ error. refuses matches words error known) c.request_in.ensures.err;
    }
