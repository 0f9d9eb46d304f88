use Rattle.gn_stream.specs.Reading.{place}
use Rattle.gn_show.proofs.CountLemmas.{source_counted, source_fault, source_unfailed}
use Rattle.gn_show.proofs.stats.count_source.Goals as goal

pub returns-clause-counted : goal.returns-clause-counted
returns-clause-counted g c =
    source_counted c.count_lines.result (place (g.S.Source.state c.args.source.now) c.new-lines.result) (place (g.S.Source.state c.count_lines.new.source) c.count_lines.new.lines) c.new-lines.ensures c.count_lines.ensures

pub returns-clause-unfailed : goal.returns-clause-unfailed
returns-clause-unfailed g c =
    source_unfailed c.count_lines.result (place (g.S.Source.state c.args.source.now) c.new-lines.result) (place (g.S.Source.state c.count_lines.new.source) c.count_lines.new.lines) c.count_lines.ensures

pub returns-clause-fault : goal.returns-clause-fault
returns-clause-fault g c =
    source_fault c.count_lines.result (place (g.S.Source.state c.args.source.now) c.new-lines.result) (place (g.S.Source.state c.count_lines.new.source) c.count_lines.new.lines) c.new-lines.ensures c.count_lines.ensures
