use Rattle.std.proofs.Common.{codes}
use Rattle.gn_text.proofs.KeptLemmas.{kept_before, on_error, whole_text}
use Rattle.gn_numbers.specs.declared.titles.Text.TheVariants.{History}
use Rattle.gn_text.specs.Header.{header_text}
use Rattle.gn_capture.specs.Histories.{steps_text}
use Rattle.gn_capture.proofs.HistoryLemmas.{part_of_text}
use Rattle.gn_capture.proofs.history_written.write_text.Goals as goal

pub returns-in_err-write_steps-clause-err : goal.returns-in_err-write_steps-clause-err
returns-in_err-write_steps-clause-err g c =
    on_error c.from_residual-in_err-write_steps.result
    (kept_before c.args.out.now.items (header_text History c.args.config.now) c.push_header.new.out.items c.write_steps.new.out.items
    c.in_ok-push_header.ensures.ok c.in_err-write_steps.ensures.err)

pub returns-clause-ok : goal.returns-clause-ok
returns-clause-ok g c =
    whole_text c.extend_from_slice.result c.args.out.now.items c.push_header.new.out.items c.write_steps.new.out.items
    c.extend_from_slice.new.self.items (header_text History c.args.config.now) (steps_text c.args.steps.now) (codes "end\n")
    c.in_ok-push_header.ensures.ok c.in_ok-write_steps.ensures.ok c.extend_from_slice.ensures.items

pub returns-clause-err : goal.returns-clause-err
returns-clause-err g c =
    part_of_text c.extend_from_slice.result c.args.out.now.items c.push_header.new.out.items c.write_steps.new.out.items
    c.extend_from_slice.new.self.items (header_text History c.args.config.now) (steps_text c.args.steps.now) (codes "end\n")
    c.in_ok-push_header.ensures.ok c.in_ok-write_steps.ensures.ok c.extend_from_slice.ensures.items
