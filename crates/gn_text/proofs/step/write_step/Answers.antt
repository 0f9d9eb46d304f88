use Rattle.gn_text.proofs.KeptLemmas.{kept_before, on_error, part_bytes_kept, same_kept, two_parts}
use Rattle.gn_text.proofs.WholeLemmas.{still_begins}
use Rattle.gn_text.proofs.step.write_step.Goals as goal

pub returns-in_err-push_number-clause-err : goal.returns-in_err-push_number-clause-err
returns-in_err-push_number-clause-err g c =
    on_error c.from_residual.result
    (same_kept c.args.out.now.items c.push_number.new.out.items c.in_err-push_number.ensures.err)

pub returns-in_err-push-clause-err : goal.returns-in_err-push-clause-err
returns-in_err-push-clause-err g c =
    on_error c.from_residual-in_err-push.result
    (still_begins c.args.out.now.items _ c.push_number.new.out.items c.push.new.self.items c.in_ok-push_number.ensures.ok c.in_err-push.ensures.items)

pub returns-in_err-write_event-clause-err : goal.returns-in_err-write_event-clause-err
returns-in_err-write_event-clause-err g c =
    let two = two_parts c.args.out.now.items c.push_number.new.out.items c.push.new.self.items _ _ c.in_ok-push_number.ensures.ok c.in_ok-push.ensures.items in
    on_error c.from_residual-in_err-write_event.result
    (kept_before c.args.out.now.items _ c.push.new.self.items c.write_event.new.out.items two c.in_err-write_event.ensures.err)

pub returns-in_err-extend_from_slice-clause-err : goal.returns-in_err-extend_from_slice-clause-err
returns-in_err-extend_from_slice-clause-err g c =
    let two = two_parts c.args.out.now.items c.push_number.new.out.items c.push.new.self.items _ _ c.in_ok-push_number.ensures.ok c.in_ok-push.ensures.items in
    let three = two_parts c.args.out.now.items c.push.new.self.items c.write_event.new.out.items _ _ two c.in_ok-write_event.ensures.ok in
    on_error c.from_residual-in_err-extend_from_slice.result
    (still_begins c.args.out.now.items _ c.write_event.new.out.items c.extend_from_slice.new.self.items three c.in_err-extend_from_slice.ensures.items)

pub returns-in_err-write_reply-clause-err : goal.returns-in_err-write_reply-clause-err
returns-in_err-write_reply-clause-err g c =
    let two = two_parts c.args.out.now.items c.push_number.new.out.items c.push.new.self.items _ _ c.in_ok-push_number.ensures.ok c.in_ok-push.ensures.items in
    let three = two_parts c.args.out.now.items c.push.new.self.items c.write_event.new.out.items _ _ two c.in_ok-write_event.ensures.ok in
    let four = two_parts c.args.out.now.items c.write_event.new.out.items c.extend_from_slice.new.self.items _ _ three c.in_ok-extend_from_slice.ensures.items in
    on_error c.from_residual-in_err-write_reply.result
    (kept_before c.args.out.now.items _ c.extend_from_slice.new.self.items c.write_reply.new.out.items four c.in_err-write_reply.ensures.err)

pub returns-clause-err : goal.returns-clause-err
returns-clause-err g c =
    let two = two_parts c.args.out.now.items c.push_number.new.out.items c.push.new.self.items _ _ c.in_ok-push_number.ensures.ok c.in_ok-push.ensures.items in
    let three = two_parts c.args.out.now.items c.push.new.self.items c.write_event.new.out.items _ _ two c.in_ok-write_event.ensures.ok in
    let four = two_parts c.args.out.now.items c.write_event.new.out.items c.extend_from_slice.new.self.items _ _ three c.in_ok-extend_from_slice.ensures.items in
    let five = two_parts c.args.out.now.items c.extend_from_slice.new.self.items c.write_reply.new.out.items _ _ four c.in_ok-write_reply.ensures.ok in
    part_bytes_kept c.extend_from_slice-2.result c.args.out.now.items _ c.write_reply.new.out.items _ c.extend_from_slice-2.new.self.items five c.extend_from_slice-2.ensures.items
