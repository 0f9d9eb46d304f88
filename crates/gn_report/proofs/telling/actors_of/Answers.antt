use Rattle.std.proofs.Common.{◌+◌, arith, map, vec_len}
use Rattle.gn_receipts.specs.Made.{receipt_list}
use Rattle.gn_report.specs.Told.{lists_of}
use Rattle.gn_report.proofs.ToldLemmas.{dealt_lists, made_lists}
use Rattle.gn_report.proofs.telling.actors_of.Goals as goal

pub returns-clause-receipts : goal.returns-clause-receipts
returns-clause-receipts g c =
    let dealt = c.in_ok-readers.field-0 in
    made_lists _ (vec_len c.args.links + vec_len c.args.links + c.args.workers + 1) c.args.steps.now (lists_of c.in_ok-links.links.items dealt.workers.items dealt.house) (map receipt_list c.in_ok-all.all.items)
    (dealt_lists c.in_ok-all.all.items dealt.readers.items dealt.writers.items dealt.workers.items dealt.house c.in_ok-links.links.items c.in_ok-readers.ensures.all c.in_ok-links.ensures.reading
    c.in_ok-links.ensures.writing)
    (omega (arith, c.len-count.ensures)) c.in_ok-all.ensures
