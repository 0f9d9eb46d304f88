use Rattle.std.proofs.Common.{◌∙◌, refl}
use Rattle.gn_text.specs.Statistics.{count_text}
use Rattle.gn_text.proofs.CountLemmas.{count_put}
use Rattle.gn_text.proofs.KeptLemmas.{items_done, items_more, kept_before, on_error, two_parts}
use Rattle.gn_text.proofs.statistics.write_counts.Goals as goal

pub returns-in_err-write_field-clause-err : goal.returns-in_err-write_field-clause-err
returns-in_err-write_field-clause-err g c =
    on_error c.from_residual.result
    (kept_before c.args.out.now.items _ c.loop-counter.out.items c.write_field.new.out.items c.loop-counter.invariant c.in_err-write_field.ensures.err)

pub returns-in_err-write_number-clause-err : goal.returns-in_err-write_number-clause-err
returns-in_err-write_number-clause-err g c =
    on_error c.from_residual-in_err-write_number.result
    (kept_before c.args.out.now.items _ c.write_field.new.out.items c.write_number.new.out.items
    (two_parts c.args.out.now.items c.loop-counter.out.items c.write_field.new.out.items _ _ c.loop-counter.invariant c.in_ok-write_field.ensures.ok)
    c.in_err-write_number.ensures.err)

pub loop-counter-preserved : goal.loop-counter-preserved
loop-counter-preserved g c =
    items_more (count_text c.args.stats.now) c.args.out.now.items c.loop-counter.out.items c.write_number.new.out.items c.args.counters.now c.loop-counter.counter-index _ _
    c.loop-counter-test.true refl c.loop-counter.invariant
    (count_put c.args.stats.now _ c.get.result c.loop-counter.out.items c.write_field.new.out.items c.write_number.new.out.items c.as_bytes.result.now
    c.in_ok-write_field.ensures.ok c.in_ok-write_number.ensures.ok (c.as_bytes.ensures.value ∙ c.counter_name.ensures) c.get.ensures)

pub returns-clause-ok : goal.returns-clause-ok
returns-clause-ok g c =
    items_done (count_text c.args.stats.now) c.args.out.now.items c.loop-counter.out.items c.args.counters.now c.loop-counter.counter-index c.loop-counter-test.false c.loop-counter.invariant
