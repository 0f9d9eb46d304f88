use Rattle.std.proofs.Common.{◌≡◌, arith, length}
use Rattle.gn_text.proofs.HexLemmas.{header_alone}
use Rattle.gn_text.proofs.packet.push_header.Goals as goal

pub overflow_sub-len : goal.overflow_sub-len
overflow_sub-len g c =
    let alone = header_alone c.args.out.now.items c.args.header.now c.with_byte.result c.push_hex.new.out.items c.with_byte.ensures c.in_ok-push_hex.ensures.ok in
    omega (arith, alone.0, c.len.ensures)

pub returns-clause-ok : goal.returns-clause-ok
returns-clause-ok g c =
    let alone = header_alone c.args.out.now.items c.args.header.now c.with_byte.result c.push_hex.new.out.items c.with_byte.ensures c.in_ok-push_hex.ensures.ok in
    let same : c.len.result ≡ length c.push_hex.new.out.items = omega (arith, c.len.ensures) in
    rw (c.truncate.ensures.items, same) alone.1
