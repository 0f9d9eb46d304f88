use Rattle.std.proofs.Common.{◌≡◌, take, reverse}
use Rattle.gn_rules.specs.Flight.{admission}
use Rattle.gn_decide.specs.Seen.{admission_seen}
use Rattle.gn_search.proofs.admitted.admission_in.Given as goal

abbrev pub invariant-loop-step : goal.invariant-loop-step
invariant-loop-step g l = admission_seen l.found ≡ admission (reverse (take l.step-index l.history)) l.t
