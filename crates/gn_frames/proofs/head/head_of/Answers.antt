use Rattle.std.proofs.Common.{sym, ◌∙◌}
use Rattle.gn_frames.proofs.HeadLemmas.{faulty_read, open_read, whole_read}
use Rattle.gn_frames.proofs.head.head_of.Goals as goal

pub returns-in-Err : goal.returns-in-Err
returns-in-Err c =
    faulty_read c.args.bytes.now c.in-Some.start.now c.in-Err.fault c.in-Some.ensures.cases.enough c.in-Some.ensures.cases.same (sym c.read_header.ensures.value ∙ c.in-Err.is)

pub returns-in-Ok : goal.returns-in-Ok
returns-in-Ok c =
    open_read c.args.bytes.now c.in-Some.start.now c.in-Ok.header c.in-Some.ensures.cases.enough c.in-Some.ensures.cases.same (sym c.read_header.ensures.value ∙ c.in-Ok.is) c.if-bytes-header.true

pub returns-in-Ok-2 : goal.returns-in-Ok-2
returns-in-Ok-2 c =
    whole_read c.args.bytes.now c.in-Some.start.now c.in-Ok.header c.in-Some.ensures.cases.enough c.in-Some.ensures.cases.same (sym c.read_header.ensures.value ∙ c.in-Ok.is) c.if-bytes-header.false
