use Rattle.std.proofs.Common.{◌≡◌, ◌≤◌, ◌<◌, ℕ, false, length, get_or}
use Rattle.gn_report.specs.Actors.{is_awaited_reader}
use Rattle.gn_report.proofs.survey.read_until.Given as goal

abbrev pub invariant-loop-read : goal.invariant-loop-read
invariant-loop-read g l = record {
  within : l.read ≤ length l.steps;
  none : (k : ℕ) (d : _) → l.read ≤ k → k < length l.steps → is_awaited_reader l.roles (get_or l.steps k d).actor ≡ false;
}

abbrev pub decreases-loop-read : goal.decreases-loop-read
decreases-loop-read g l = l.read
