use Rattle.std.proofs.Common.{◌≡◌, ◌++◌, vec_items}
use Rattle.std.specs.List.{filter_map}
use Rattle.std.specs.Vec.Iter.{into_iter_items}
use Rattle.gn_report.specs.Accounts.{account_in}
use Rattle.gn_report.proofs.kept.Kept.into_accounts.Given as goal

abbrev pub invariant-loop-end : goal.invariant-loop-end
invariant-loop-end g l = vec_items l.made ++ filter_map account_in (into_iter_items l.end-iterator) ≡ filter_map account_in (vec_items l.fn.self.links)
