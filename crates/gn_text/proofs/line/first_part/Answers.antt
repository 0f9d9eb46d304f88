use Rattle.std.proofs.Common.{arith}
use Rattle.std.proofs.lemmas.Bool.{eq-eqb, eqb-true}
use Rattle.gn_text.proofs.PartLemmas.{at_place, before_place, cut_at}
use Rattle.gn_text.proofs.line.first_part.Goals as goal

pub returns-in-Some-clause-unmarked : goal.returns-in-Some-clause-unmarked
returns-in-Some-clause-unmarked c = λ k d l is.
    let place = before_place c.args.text.now c.in-Some.at k d c.args.mark l is in
    (rw c.in-Some.is at c.requires).0.before k (omega arith) place.0 (eq-eqb _ _ place.1)

pub returns-in-Some-clause-cut : goal.returns-in-Some-clause-cut
returns-in-Some-clause-cut c =
    let first = rw c.in-Some.is at c.requires in
    cut_at c.args.text.now c.in-Some.at c.args.mark first.0.high (eqb-true _ _ first.1)

pub returns-in-None-clause-unmarked : goal.returns-in-None-clause-unmarked
returns-in-None-clause-unmarked c = λ k d l is.
    (rw c.in-None.is at c.requires) k (omega arith) l (eq-eqb _ _ (at_place c.args.text.now k d c.args.mark l is))
