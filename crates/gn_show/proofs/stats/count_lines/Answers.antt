use Rattle.gn_stream.specs.Reading.{place}
use Rattle.gn_show.proofs.CountLemmas.{header_unread, whole_counted}
use Rattle.gn_show.proofs.stats.count_lines.Goals as goal

pub returns-in_err-read_history_header : goal.returns-in_err-read_history_header
returns-in_err-read_history_header g c =
    header_unread c.from_residual.result _ (place (g.S.Source.state c.args.source.now) c.args.lines.now) (place (g.S.Source.state c.read_history_header.new.source) c.read_history_header.new.lines) c.from_residual.ensures.1 c.in_err-read_history_header.ensures

pub returns : goal.returns
returns g c =
    whole_counted c.count_steps.result c.in_ok-read_history_header.field-0 (place (g.S.Source.state c.args.source.now) c.args.lines.now) (place (g.S.Source.state c.read_history_header.new.source) c.read_history_header.new.lines)
    (place (g.S.Source.state c.count_steps.new.source) c.count_steps.new.lines) c.in_ok-read_history_header.ensures c.count_steps.ensures
