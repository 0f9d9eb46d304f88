use Rattle.std.proofs.Common.{◌≡◌, take, vec_items}
use Rattle.std.specs.List.{filter_map}
use Rattle.gn_report.specs.Accounts.{tally_in}
use Rattle.gn_report.proofs.kept.tallies_of.Given as goal

abbrev pub invariant-loop-end : goal.invariant-loop-end
invariant-loop-end g l = vec_items l.made ≡ filter_map tally_in (take l.end-index l.ends)
