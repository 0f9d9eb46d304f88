use Rattle.gn_stream.specs.declared.ending.Ending.TheVariants.{Own}
use Rattle.gn_stream.specs.Reading.{place}
use Rattle.gn_replay.proofs.VerdictLemmas.{source_fault, source_judged, source_unfailed}
use Rattle.gn_replay.proofs.judged.judge_source.Goals as goal

pub returns-clause-judged : goal.returns-clause-judged
returns-clause-judged g c =
    source_judged c.judge_lines.result (place (g.S.Source.state c.args.source.now) c.new-lines.result) (place (g.S.Source.state c.judge_lines.new.source) c.judge_lines.new.lines)
    c.new-lines.ensures c.judge_lines.ensures

pub returns-clause-unfailed : goal.returns-clause-unfailed
returns-clause-unfailed g c =
    source_unfailed c.judge_lines.result (place (g.S.Source.state c.args.source.now) c.new-lines.result) (place (g.S.Source.state c.judge_lines.new.source) c.judge_lines.new.lines)
    c.judge_lines.ensures

pub returns-clause-fault : goal.returns-clause-fault
returns-clause-fault g c =
    source_fault Own c.judge_lines.result (place (g.S.Source.state c.args.source.now) c.new-lines.result) (place (g.S.Source.state c.judge_lines.new.source) c.judge_lines.new.lines)
    c.new-lines.ensures c.judge_lines.ensures
