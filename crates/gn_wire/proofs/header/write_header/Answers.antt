use Rattle.std.proofs.Common.{◌∙◌}
use Rattle.gn_wire.proofs.HeaderLemmas.{header_encoded}
use Rattle.gn_wire.proofs.header.write_header.Goals as goal

pub returns : goal.returns
returns c =
    header_encoded c.copy_from_slice.new.self _ c.code.result _ _ _ c.copy_from_slice-2.new.self _ c.copy_from_slice.ensures.len c.copy_from_slice.ensures.after c.code.ensures (c.copy_from_slice-2.ensures.after ∙ c.write_u32.ensures)
