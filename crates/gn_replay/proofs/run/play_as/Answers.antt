use Rattle.std.proofs.Common.{◌++◌, ℕ, List, subst}
use Rattle.gn_rules.specs.declared.config.Config.{Config}
use Rattle.gn_io.specs.Parts.{AppendsPart}
use Rattle.gn_replay.specs.Playing.{said}
use Rattle.gn_replay.specs.Printed.{ending_of}
use Rattle.gn_replay.specs.ReplayText.{capture_plays}
use Rattle.gn_replay.proofs.RunLemmas.{none_written, on_err}
use Rattle.gn_replay.proofs.run.play_as.Goals as goal

pub returns-in_err-block-clause-err : goal.returns-in_err-block-clause-err
returns-in_err-block-clause-err g c = on_err c.from_residual.result (none_written (g.W.Sink.state c.args.sink.now).written _)

pub returns-in_err-make-clause-err : goal.returns-in_err-make-clause-err
returns-in_err-make-clause-err g c = on_err c.from_residual-in_err-make.result (none_written (g.W.Sink.state c.args.sink.now).written _)

pub returns-in_err-write_lines-clause-err : goal.returns-in_err-write_lines-clause-err
returns-in_err-write_lines-clause-err g c =
    let old = (g.W.Sink.state c.args.sink.now).written in
    let new = (g.W.Sink.state c.write_lines.new.sink).written in
    let lines = c.args.capture.lines.items in
    on_err c.from_residual-in_err-write_lines.result
    (subst (λ (begun : List ℕ). AppendsPart old new (begun ++ said c.args.form (capture_plays c.args.capture.config lines) ++ ending_of c.args.form)) c.in_ok-block.ensures
    (subst (λ (ending : List ℕ). AppendsPart old new (c.in_ok-block.block ++ said c.args.form (capture_plays c.args.capture.config lines) ++ ending)) c.ending.ensures
    (subst (λ (s : Config). AppendsPart old new (c.in_ok-block.block ++ said c.args.form (capture_plays s lines) ++ c.ending.result.now)) c.in_ok-make.ensures.settings
    c.in_err-write_lines.ensures.err)))
