use Rattle.gn_stream.specs.Reading.{place}
use Rattle.gn_replay.proofs.VerdictLemmas.{header_only, header_refused_of, whole_found}
use Rattle.gn_replay.proofs.judged.judge_lines.Goals as goal

pub returns-in_err-config : goal.returns-in_err-config
returns-in_err-config g c =
    header_refused_of c.from_residual.result _ (place (g.S.Source.state c.args.source.now) c.args.lines.now)
    (place (g.S.Source.state c.read_history_header.new.source) c.read_history_header.new.lines) c.from_residual.ensures.1 c.in_err-config.ensures

pub returns-in_err-core : goal.returns-in_err-core
returns-in_err-core g c =
    header_only c.from_residual-in_err-core.result c.in_ok-config.config (place (g.S.Source.state c.args.source.now) c.args.lines.now)
    (place (g.S.Source.state c.read_history_header.new.source) c.read_history_header.new.lines) c.from_residual-in_err-core.ensures.1 c.in_ok-config.ensures

pub returns : goal.returns
returns g c =
    whole_found c.judge.result c.in_ok-config.config (g.C.RouterCore.settings c.in_ok-core.core) (place (g.S.Source.state c.args.source.now) c.args.lines.now)
    (place (g.S.Source.state c.read_history_header.new.source) c.read_history_header.new.lines)
    (place (g.S.Source.state c.judge.new.source) c.judge.new.lines) c.in_ok-core.ensures.settings c.in_ok-config.ensures c.judge.ensures.found
