use Rattle.std.proofs.Common.{refl}
use Rattle.gn_stream.specs.Reading.{place}
use Rattle.gn_replay.proofs.VerdictLemmas.{cut_failed, cut_found}
use Rattle.gn_replay.proofs.judged.judge_cut.Goals as goal

pub returns-in_err-judgement-clause-fault : goal.returns-in_err-judgement-clause-fault
returns-in_err-judgement-clause-fault g c =
    cut_failed g.row.A.Denot c.from_residual.result _ (place (g.S.Source.state c.args.source.now) c.of_cut-lines.result) (place (g.S.Source.state c.judge_lines-judged.new.source) c.judge_lines-judged.new.lines)
    c.from_residual.ensures.1 c.of_cut-lines.ensures c.in_err-judgement.ensures

pub returns-clause-judged : goal.returns-clause-judged
returns-clause-judged g c =
    cut_found c.in_ok-judgement.judgement c.in_ok-judgement.steps
    (place (g.S.Source.state c.args.source.now) c.of_cut-lines.result) (place (g.S.Source.state c.judge_lines-judged.new.source) c.judge_lines-judged.new.lines)
    _ c.legality-legality.ensures refl c.has_added_end-lacks_end.ensures c.of_cut-lines.ensures c.in_ok-judgement.ensures
