use Rattle.gn_text.proofs.KeptLemmas.{part_kept, two_parts}
use Rattle.gn_text.proofs.event.write_event.Goals as goal

pub returns-in_ok-write_number-in-Admit-clause-err : goal.returns-in_ok-write_number-in-Admit-clause-err
returns-in_ok-write_number-in-Admit-clause-err g c =
    let two = two_parts c.args.out.now.items c.extend_from_slice.new.self.items c.write_number.new.out.items _ _ c.in_ok-extend_from_slice.ensures.items c.in_ok-write_number-in-Admit.ensures.ok in
    part_kept c.write_packet_field.result c.args.out.now.items _ c.write_number.new.out.items c.write_packet_field.new.out.items two c.write_packet_field.ensures.err
