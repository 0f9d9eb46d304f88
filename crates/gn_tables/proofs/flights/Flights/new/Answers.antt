use Rattle.std.proofs.Common.{rules}
use Rattle.gn_tables.proofs.OriginLemmas.{counts_none}
use Rattle.gn_tables.proofs.flights.Flights.new.Goals as goal

pub invariant_of-result : goal.invariant_of-result
invariant_of-result g c = (
  search rules,
  c.requires.limit,
  counts_none c.new-2.result.entries c.new.result.entries c.args.most c.new-2.ensures.empty c.new.ensures.empty,
)
