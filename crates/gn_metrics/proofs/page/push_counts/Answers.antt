use Rattle.std.proofs.Common.{◌++◌, List, ap, refl, ◌∙◌, ℕ}
use Rattle.gn_text.proofs.KeptLemmas.{items_done, items_more}
use Rattle.gn_metrics.proofs.PageLemmas.{count_put}
use Rattle.gn_metrics.specs.Page.{count_text}
use Rattle.gn_metrics.proofs.page.push_counts.Goals as goal

pub loop-counter-preserved : goal.loop-counter-preserved
loop-counter-preserved g c =
    let row = count_put c.args.look.now _ c.total-row.result c.as_bytes-name.result.now c.from.result c.total-row.ensures
    (c.as_bytes-name.ensures.value ∙ c.counter_name.ensures) (c.from.ensures ∙ c.count.ensures) in
    let more = c.in_ok-push_row.ensures ∙ ap (λ (text : List ℕ). c.loop-counter.out.items ++ text) row in
    items_more (count_text c.args.look.now) c.args.out.now.items c.loop-counter.out.items c.push_row.new.out.items c.args.which.now c.loop-counter.counter-index _ _
    c.loop-counter-test.true refl c.loop-counter.invariant more

pub returns : goal.returns
returns g c =
    items_done (count_text c.args.look.now) c.args.out.now.items c.loop-counter.out.items c.args.which.now c.loop-counter.counter-index
    c.loop-counter-test.false c.loop-counter.invariant
