use Rattle.std.proofs.Common.{sym, ◌∙◌}
use Rattle.gn_capture.proofs.PacketLemmas.{faulty, other_length}
use Rattle.gn_capture.proofs.packet.header_alone.Goals as goal

pub returns-in-Err : goal.returns-in-Err
returns-in-Err c =
    faulty c.args.bytes.now c.in_ok-head.head.now c.in-Err.field-0 c.in_ok-head.ensures.cases.enough c.in_ok-head.ensures.cases.same
    (sym c.read_header.ensures.value ∙ c.in-Err.is)

pub returns-in-Ok : goal.returns-in-Ok
returns-in-Ok c =
    other_length c.args.bytes.now c.in_ok-head.head.now c.in-Ok.header c.in_ok-head.ensures.cases.enough c.in_ok-head.ensures.cases.same
    (sym c.read_header.ensures.value ∙ c.in-Ok.is) c.if-header-bytes.true
