use Rattle.std.proofs.Common.{◌≡◌, ◌≤◌, vec_items, vec_len, vec_capacity}
use Rattle.gn_stage.specs.Opened.{IsPassOf, knows}
use Rattle.gn_stage.specs.Rule.{with_drained}
use Rattle.gn_stage.proofs.settle.drain_queue.Given as goal

abbrev pub invariant-loop : goal.invariant-loop
invariant-loop g l = record {
  here : IsPassOf g.S.Site.stage l.pass;
  known : knows l.pass ≡ with_drained (knows l.initial.pass) (vec_items l.drained);
  few : vec_len l.drained ≤ (knows l.initial.pass).room;
  room : vec_capacity l.drained ≡ vec_capacity l.initial.drained;
}
