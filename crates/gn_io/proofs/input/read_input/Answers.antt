use Rattle.std.proofs.Common.{◌<◌, arith, length, rules}
use Rattle.gn_io.specs.Input.{input_limit}
use Rattle.gn_io.proofs.InputLemmas.{given_beyond, read_more, read_whole}
use Rattle.gn_io.proofs.input.read_input.Goals as goal

pub returns-then-n-eq0-clause-all : goal.returns-then-n-eq0-clause-all
returns-then-n-eq0-clause-all g c =
    read_whole (g.S.Source.state c.args.source.now).rest (g.S.Source.state c.loop-room.source).rest (g.S.Source.state c.read.new.self).rest
    (g.S.Source.state c.args.source.now).told (g.S.Source.state c.loop-room.source).told (g.S.Source.state c.read.new.self).told c.loop-room.input.items c.read.new.room c.in-Ok.n
    c.loop-room.invariant.taken c.in-Ok.ensures.bytes.0 c.if-n-eq0.true (c.in-Ok.ensures.bytes.1 c.if-n-eq0.true (search rules)) c.loop-room.invariant.told c.in-Ok.ensures.told

pub returns-clause-fault : goal.returns-clause-fault
returns-clause-fault g c =
    let many : input_limit < length c.loop-room.input.items = omega (arith, c.loop-room-test.false, c.len.ensures, c.loop-room.input.ok) in
    record {
      known = read_more (g.S.Source.state c.args.source.now).rest (g.S.Source.state c.loop-room.source).rest (g.S.Source.state c.args.source.now).told (g.S.Source.state c.loop-room.source).told
          c.loop-room.input.items input_limit c.loop-room.invariant.taken c.loop-room.invariant.told many;
      given = given_beyond (g.S.Source.state c.args.source.now).given (g.S.Source.state c.loop-room.source).given (length c.loop-room.input.items) input_limit c.loop-room.invariant.given many;
    }
