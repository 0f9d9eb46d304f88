use Rattle.std.proofs.Common.{◌≡◌, ◌<◌, ℕ, true, get_or}
use Rattle.gn_report.specs.BodyEnds.{is_settled}
use Rattle.gn_report.specs.Routes.{IsReach}
use Rattle.gn_report.specs.Survey.{is_drains_close}
use Rattle.gn_report.proofs.routes.routes_in.Given as goal

abbrev pub invariant-loop-i : goal.invariant-loop-i
invariant-loop-i g l = record {
  reach : IsReach l.steps l.i l.reach;
  settled : l.are_settled ≡ true → (k : ℕ) (d : _) → k < l.i → is_drains_close l.links (get_or l.steps k d) ≡ true → is_settled l.steps k ≡ true;
}
