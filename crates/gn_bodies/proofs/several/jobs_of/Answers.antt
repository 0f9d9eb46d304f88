use Rattle.std.proofs.Common.{◌∙◌, ap, refl, vec_items}
use Rattle.gn_bodies.specs.Jobs.{job_by}
use Rattle.gn_bodies.proofs.SeveralLemmas.{admits_at, jobs_more}
use Rattle.gn_bodies.proofs.several.jobs_of.Goals as goal

pub loop-receipt-preserved : goal.loop-receipt-preserved
loop-receipt-preserved g c = λ conn ds is.
    let r = c.receipt-item.result in
    let (d, at) = admits_at conn ds c.args.receipts.now c.loop-receipt.receipt-index r is c.loop-receipt-test.true in
    jobs_more c.args.receipts.now c.loop-receipt.receipt-index r (vec_items c.loop-receipt.jobs) (vec_items c.add_job_of.new.jobs) (job_by r.event r.reply) c.loop-receipt-test.true c.receipt-item.is
    (c.loop-receipt.invariant conn ds is) refl (c.in_ok-add_job_of.ensures conn d (ap (λ x. x.event) c.receipt-item.is ∙ at))
