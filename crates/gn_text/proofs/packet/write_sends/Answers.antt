use Rattle.gn_text.specs.Steps.{sending_text}
use Rattle.gn_text.proofs.KeptLemmas.{items_done, kept_before, on_error, two_parts}
use Rattle.gn_text.proofs.WholeLemmas.{still_begins}
use Rattle.gn_text.proofs.packet.write_sends.Goals as goal

pub returns-in_err-write_number-clause-err : goal.returns-in_err-write_number-clause-err
returns-in_err-write_number-clause-err g c =
    on_error c.from_residual.result (kept_before c.args.out.now.items _ c.loop-sending.out.items c.write_number.new.out.items c.loop-sending.invariant.written c.in_err-write_number.ensures.err)

pub returns-in_err-push-clause-err : goal.returns-in_err-push-clause-err
returns-in_err-push-clause-err g c =
    on_error c.from_residual-in_err-push.result
    (still_begins c.args.out.now.items _ c.write_number.new.out.items c.push.new.self.items
    (two_parts c.args.out.now.items c.loop-sending.out.items c.write_number.new.out.items _ _ c.loop-sending.invariant.written c.in_ok-write_number.ensures.ok)
    c.in_err-push.ensures.items)

pub returns-in_err-write_next-clause-err : goal.returns-in_err-write_next-clause-err
returns-in_err-write_next-clause-err g c =
    let two = two_parts c.args.out.now.items c.loop-sending.out.items c.write_number.new.out.items _ _ c.loop-sending.invariant.written c.in_ok-write_number.ensures.ok in
    on_error c.from_residual-in_err-write_next.result
    (still_begins c.args.out.now.items _ c.push.new.self.items c.write_next.new.out.items
    (two_parts c.args.out.now.items c.write_number.new.out.items c.push.new.self.items _ _ two c.in_ok-push.ensures.items) c.in_err-write_next.ensures.err)

pub returns-clause-ok : goal.returns-clause-ok
returns-clause-ok g c =
    items_done sending_text c.args.out.now.items c.loop-sending.out.items c.args.sends.now c.loop-sending.sending-index c.loop-sending-test.false c.loop-sending.invariant.written
