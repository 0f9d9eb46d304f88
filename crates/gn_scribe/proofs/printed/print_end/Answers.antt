use Rattle.std.proofs.Common.{◌++◌, codes, refl}
use Rattle.std.proofs.lemmas.Result.{IfErr-weaker, on_err_weaker, on_ok_weaker}
use Rattle.gn_capture.specs.Histories.{steps_text}
use Rattle.gn_printed.proofs.PrintLemmas.{all_cut, all_written, cause_after, on_err, part_of, parts_are}
use Rattle.gn_scribe.proofs.printed.print_end.Goals as goal

pub returns-in_err-print_steps-clause-err : goal.returns-in_err-print_steps-clause-err
returns-in_err-print_steps-clause-err g c =
    let steps = steps_text c.args.steps.now in
    on_err c.from_residual.result
    (part_of (g.W.Sink.state c.args.sink.now).written (g.W.Sink.state c.print_steps.new.sink).written (c.args.waiting ++ steps) (codes "end\n") _ c.in_err-print_steps.ensures.err
    (parts_are c.args.waiting c.args.waiting steps (codes "end\n") refl))

pub returns-clause-ok : goal.returns-clause-ok
returns-clause-ok g c =
    let steps = steps_text c.args.steps.now in
    on_ok_weaker c.write_end.result
    (λ all. all_written (g.W.Sink.state c.args.sink.now).written (g.W.Sink.state c.print_steps.new.sink).written (g.W.Sink.state c.write_end.new.sink).written c.print_steps.new.block
    (codes "end\n") _ (c.args.waiting ++ steps) _ c.in_ok-print_steps.ensures.ok refl all
    (parts_are c.args.waiting c.args.waiting steps (codes "end\n") refl)) c.write_end.ensures.ok

pub returns-clause-err : goal.returns-clause-err
returns-clause-err g c =
    let steps = steps_text c.args.steps.now in
    on_err_weaker c.write_end.result
    (λ part. all_cut (g.W.Sink.state c.args.sink.now).written (g.W.Sink.state c.print_steps.new.sink).written (g.W.Sink.state c.write_end.new.sink).written c.print_steps.new.block
    (codes "end\n") _ (c.args.waiting ++ steps) _ c.in_ok-print_steps.ensures.ok refl part
    (parts_are c.args.waiting c.args.waiting steps (codes "end\n") refl)) c.write_end.ensures.err

pub returns-clause-cause : goal.returns-clause-cause
returns-clause-cause g c =
    IfErr-weaker _ _ _ (λ fault cause. cause_after fault (g.W.Sink.state c.args.sink.now) (g.W.Sink.state c.print_steps.new.sink) (g.W.Sink.state c.write_end.new.sink)
    c.in_ok-print_steps.ensures.writes cause) c.write_end.ensures.cause
