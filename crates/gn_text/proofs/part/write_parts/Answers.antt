use Rattle.std.proofs.Common.{◌∙◌, refl}
use Rattle.gn_text.proofs.KeptLemmas.{begins, on_error}
use Rattle.gn_text.proofs.PartsLemmas.{part_written, parts_done}
use Rattle.gn_text.proofs.part.write_parts.Goals as goal

pub returns-in_err-push_part-clause-err : goal.returns-in_err-push_part-clause-err
returns-in_err-push_part-clause-err g c =
    on_error c.from_residual.result (begins c.args.out.now.items _ c.push_part.new.out.items (c.in_err-push_part.ensures.err ∙ c.loop-part.invariant))

pub loop-part-preserved : goal.loop-part-preserved
loop-part-preserved g c =
    part_written c.args.out.now.items c.loop-part.out.items c.push_part.new.out.items c.args.parts.now c.loop-part.part-index _ _ c.loop-part-test.true refl
    c.loop-part.invariant c.in_ok-push_part.ensures.ok

pub returns-clause-ok : goal.returns-clause-ok
returns-clause-ok g c = parts_done c.args.out.now.items c.loop-part.out.items c.args.parts.now c.loop-part.part-index c.loop-part-test.false c.loop-part.invariant
