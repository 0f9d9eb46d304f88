use Rattle.std.proofs.Common.{ap, arith, vec_items}
use Rattle.std.specs.Vec.Iter.{into_iter_items}
use Rattle.gn_receipts.specs.Made.{receipt_list}
use Rattle.gn_report.specs.Told.{account_ends, ends_of}
use Rattle.gn_report.proofs.ToldLemmas.{all_moved, one_moved}
use Rattle.gn_report.proofs.telling.link_reports.Goals as goal

pub loop-link-preserved : goal.loop-link-preserved
loop-link-preserved g c =
    let was = c.loop-link.invariant in
    let before = vec_items c.loop-link.made in
    let after = vec_items c.push_reserved.new.self in
    let rest = into_iter_items c.loop-link.link-iterator in
    let left = into_iter_items c.next.new.self in
    let one = c.push_reserved.ensures.items in
    let made = c.link_report.ensures in
    record {
      many = omega (arith, was.many, c.in-Some.ensures.steps.1, c.push_reserved.ensures.len);
      left = (omega (arith, was.left.0, c.in-Some.ensures.steps.1, c.in-Some-next.ensures.len), omega (arith, was.left.1, c.in-Some.ensures.steps.1, c.in-Some-next-2.ensures.len));
      room = omega (arith, was.room, c.push_reserved.ensures.capacity);
      ends = one_moved ends_of account_ends before after rest left _ c.in-Some.link _ one made.ends c.in-Some.ensures.steps.0 was.ends;
      reading = one_moved (λ link. link.reader_receipts.items) receipt_list before after (into_iter_items c.loop-link.reading) (into_iter_items c.next-in-loop-link.new.self) _ c.in-Some-next.own _
          one (ap receipt_list made.receipts.0) c.in-Some-next.ensures.items was.reading;
      writing = one_moved (λ link. link.writer_receipts.items) receipt_list before after (into_iter_items c.loop-link.writing) (into_iter_items c.next-in-loop-link-2.new.self) _ c.in-Some-next-2.other _
          one (ap receipt_list made.receipts.1) c.in-Some-next-2.ensures.items was.writing;
    }

pub returns-clause-ends : goal.returns-clause-ends
returns-clause-ends g c =
    all_moved ends_of account_ends (vec_items c.loop-link.made) (into_iter_items c.loop-link.link-iterator) _ (omega (arith, c.loop-link.link-iterator.rest.ok, c.in-None.ensures.steps.0)) c.loop-link.invariant.ends

pub returns-clause-reading : goal.returns-clause-reading
returns-clause-reading g c =
    all_moved (λ link. link.reader_receipts.items) receipt_list (vec_items c.loop-link.made) (into_iter_items c.loop-link.reading) _
    (omega (arith, c.loop-link.reading.rest.ok, c.loop-link.invariant.left.0, c.in-None.ensures.steps.0)) c.loop-link.invariant.reading

pub returns-clause-writing : goal.returns-clause-writing
returns-clause-writing g c =
    all_moved (λ link. link.writer_receipts.items) receipt_list (vec_items c.loop-link.made) (into_iter_items c.loop-link.writing) _
    (omega (arith, c.loop-link.writing.rest.ok, c.loop-link.invariant.left.1, c.in-None.ensures.steps.0)) c.loop-link.invariant.writing
