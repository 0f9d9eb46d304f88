use Rattle.std.proofs.Common.{arith}
use Rattle.gn_tables.specs.Outputs.{IsRing}
use Rattle.gn_tables.proofs.OutputLemmas.{ring_at, row_at}
use Rattle.gn_tables.proofs.neighbours.Neighbours.at.Goals as goal

pub overflow_cast-result : goal.overflow_cast-result
overflow_cast-result g c =
    let found = c.in_ok-connection.ensures.lookup in
    let ring : IsRing c.self.inside.room c.in_ok-connection.field-0.now.1 =
    ring_at c.self.inside.most c.self.inside.room c.self.inside.rows.items c.deref.result.now c.args.index c.in_ok-connection.field-0.now c.self.invariant c.deref.ensures.value found.0 found.1 in
    omega (arith, ring.1, c.self.invariant.room_fits, c.len.ensures.len)

pub returns : goal.returns
returns g c =
    let found = c.in_ok-connection.ensures.lookup in
    rw (← c.self.view_is)
    (row_at c.self.inside.rows.items c.deref.result.now c.args.index c.in_ok-connection.field-0.now c.len.result c.deref.ensures.value found.0 found.1 c.len.ensures.len)
