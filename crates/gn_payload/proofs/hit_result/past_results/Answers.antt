use Rattle.std.proofs.Common.{◌∙◌, sym, arith}
use Rattle.gn_payload.specs.Views.{result_fields}
use Rattle.gn_payload.proofs.ResultLemmas.{past_step}
use Rattle.gn_payload.proofs.hit_result.past_results.Goals as goal

pub loop-preserved : goal.loop-preserved
loop-preserved c =
    past_step c.args.count c.loop.counter c.loop.rest.now (result_fields c.in_ok-more.field-0-0) c.in_ok-more.more.now (omega arith) (sym c.in_ok-more.ensures) ∙ c.loop.invariant
