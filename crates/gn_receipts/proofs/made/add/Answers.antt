use Rattle.std.proofs.Common.{rules, ◌<◌, length}
use Rattle.gn_receipts.specs.Made.{receipt_at}
use Rattle.gn_receipts.proofs.MadeLemmas.{put_more}
use Rattle.gn_receipts.proofs.made.add.Goals as goal

pub returns-in_ok-push : goal.returns-in_ok-push
returns-in_ok-push g c =
    let below : c.args.step.now.actor < length c.args.all.now.items = search rules in
    put_more c.args.all.now.items c.args.step.now.actor c.index_mut.result.now c.push.new.self (receipt_at c.args.index c.args.step.now) c.in_ok-receipt_of.field-0 below c.index_mut.ensures.value c.in_ok-push.ensures.items
    c.in_ok-receipt_of.ensures
