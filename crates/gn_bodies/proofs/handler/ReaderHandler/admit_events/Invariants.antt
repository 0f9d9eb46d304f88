use Rattle.std.proofs.Common.{◌≡◌, ◌≤◌, ◌-◌, ◌++◌, length, take}
use Rattle.gn_bodies.specs.Admitting.{GoesOn}
use Rattle.gn_bodies.specs.Events.{link_events}
use Rattle.gn_bodies.proofs.handler.ReaderHandler.admit_events.Given as goal

abbrev pub decreases-loop-at : goal.decreases-loop-at
decreases-loop-at g l = length l.events - l.at

abbrev pub invariant-loop-at : goal.invariant-loop-at
invariant-loop-at g l = record {
  within : l.at ≤ length l.events;
  went : GoesOn l.initial.self l.self;
  added : link_events l.self.actor ≡ link_events l.initial.self.actor ++ take l.at l.events;
}
