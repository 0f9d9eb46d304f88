use Rattle.std.proofs.Common.{◌≡◌, ◌++◌, take}
use Rattle.gn_metrics.specs.Page.{counts_text}
use Rattle.gn_metrics.proofs.page.push_counts.Given as goal

abbrev pub invariant-loop-counter : goal.invariant-loop-counter
invariant-loop-counter g l = l.out.items ≡ l.fn.out.items ++ counts_text l.look (take l.counter-index l.which)
