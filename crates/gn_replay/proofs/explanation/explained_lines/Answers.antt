use Rattle.std.proofs.Common.{refl}
use Rattle.gn_replay.proofs.ExplainedLemmas.{explained_legal, explained_wrong}
use Rattle.gn_replay.proofs.explanation.explained_lines.Goals as goal

pub returns-in-Legal : goal.returns-in-Legal
returns-in-Legal g c = λ text judged.
    explained_legal text c.args.judgement.now c.args.steps c.legality-legality.result c.in_ok-lines.lines.items c.in_ok-lines.lines.items
    judged c.legality-legality.ensures c.in_ok-lines.ensures refl c.in-Legal.is

pub returns-in_ok-write_explanation-in-WrongAt : goal.returns-in_ok-write_explanation-in-WrongAt
returns-in_ok-write_explanation-in-WrongAt g c = λ text judged.
    explained_wrong text c.args.judgement.now c.args.steps c.legality-legality.result c.in_ok-lines.lines.items c.write_explanation.new.out.items
    c.in-WrongAt.wrong judged c.legality-legality.ensures c.in_ok-lines.ensures c.in-WrongAt.is c.in_ok-write_explanation-in-WrongAt.ensures
