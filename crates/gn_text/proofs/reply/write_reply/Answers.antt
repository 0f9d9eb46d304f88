use Rattle.std.proofs.Common.{sym, ◌∙◌}
use Rattle.gn_text.proofs.KeptLemmas.{part_kept, two_parts}
use Rattle.gn_text.proofs.ReplyLemmas.{number_put}
use Rattle.gn_text.proofs.reply.write_reply.Goals as goal

pub returns-in_ok-write_field-in-Routed-clause-err : goal.returns-in_ok-write_field-in-Routed-clause-err
returns-in_ok-write_field-in-Routed-clause-err g c =
    let two = two_parts c.args.out.now.items c.extend_from_slice.new.self.items c.write_field.new.out.items _ _ c.in_ok-extend_from_slice.ensures.items c.in_ok-write_field-in-Routed.ensures.ok in
    part_kept c.write_sends.result c.args.out.now.items _ c.write_field.new.out.items c.write_sends.new.out.items two c.write_sends.ensures.err

pub returns-in-Some-clause-ok : goal.returns-in-Some-clause-ok
returns-in-Some-clause-ok g c =
    number_put c.write_number.result c.args.reply.now c.in-Some.number c.args.out.now.items c.extend_from_slice.new.self.items c.write_number.new.out.items
    c.as_bytes.result.now c.in_ok-extend_from_slice.ensures.items (c.as_bytes.ensures.value ∙ c.reply_name.ensures) (sym c.number.ensures ∙ c.in-Some.is)
    c.write_number.ensures.ok

pub returns-in-Some-clause-err : goal.returns-in-Some-clause-err
returns-in-Some-clause-err g c =
    part_kept c.write_number.result c.args.out.now.items _ c.extend_from_slice.new.self.items c.write_number.new.out.items c.in_ok-extend_from_slice.ensures.items
    c.write_number.ensures.err
