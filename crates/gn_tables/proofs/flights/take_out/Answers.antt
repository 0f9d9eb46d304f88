use Rattle.gn_tables.proofs.MapLemmas.{taken_at}
use Rattle.gn_tables.proofs.flights.take_out.Goals as goal

pub unreachable-requires : goal.unreachable-requires
unreachable-requires g c =
    let at = c.is_at.ensures c.if-not-is_at.false in
    let there = at.1 in
    let none = c.in-None.ensures.entry in
    cc

pub returns-clause-value : goal.returns-clause-value
returns-clause-value g c =
    (taken_at c.args.flights.now.entries c.swap_remove_index.new.self.entries c.args.near c.args.ticket _ c.in-Some.ensures.entry (c.is_at.ensures c.if-not-is_at.false) c.in-Some.ensures.updates.0).0

pub returns-clause-others : goal.returns-clause-others
returns-clause-others g c =
    (taken_at c.args.flights.now.entries c.swap_remove_index.new.self.entries c.args.near c.args.ticket _ c.in-Some.ensures.entry (c.is_at.ensures c.if-not-is_at.false) c.in-Some.ensures.updates.0).1
