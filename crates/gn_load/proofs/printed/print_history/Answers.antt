use Rattle.std.proofs.Common.{◌++◌, List, OnErr, OnOk, codes, subst}
use Rattle.std.specs.Io.KnownBytes.{Appends}
use Rattle.gn_capture.specs.Histories.{steps_text}
use Rattle.gn_io.specs.Parts.{AppendsPart}
use Rattle.gn_printed.proofs.PrintLemmas.{none_written, on_err}
use Rattle.gn_load.proofs.printed.print_history.Goals as goal

pub returns-in_err-block-clause-err : goal.returns-in_err-block-clause-err
returns-in_err-block-clause-err g c = on_err c.from_residual.result (none_written (g.W.Sink.state c.args.sink.now).written _)

pub returns-clause-ok : goal.returns-clause-ok
returns-clause-ok g c =
    subst (λ (heading : List _). OnOk c.print_end.result (Appends (g.W.Sink.state c.args.sink.now).written (g.W.Sink.state c.print_end.new.sink).written (heading ++ steps_text c.args.steps.now ++ codes "end\n")))
    c.in_ok-block.ensures c.print_end.ensures.ok

pub returns-clause-err : goal.returns-clause-err
returns-clause-err g c =
    subst (λ (heading : List _). OnErr c.print_end.result (AppendsPart (g.W.Sink.state c.args.sink.now).written (g.W.Sink.state c.print_end.new.sink).written (heading ++ steps_text c.args.steps.now ++ codes "end\n")))
    c.in_ok-block.ensures c.print_end.ensures.err
