use Rattle.std.proofs.Common.{◌≡◌, ◌≤◌, ◌+◌, map, vec_items, vec_len}
use Rattle.std.specs.Prelude.{vec_capacity}
use Rattle.std.specs.Vec.Iter.{into_iter_len}
use Rattle.gn_actors.specs.Registry.{registry_state}
use Rattle.gn_actors.specs.Who.{number_of}
use Rattle.gn_actors.specs.declared.who.Who.TheVariants.{Worker}
use Rattle.gn_start.specs.Crews.{count_from}
use Rattle.gn_start.proofs.start.Starter.start_workers.Given as goal

abbrev pub invariant-loop-outlet : goal.invariant-loop-outlet
invariant-loop-outlet g l = record {
  numbers : map (λ h. h.promise.start.value.actor.number) (vec_items l.handles) ≡ count_from (number_of l.fn.numbering (Worker 0)) l.worker;
  many : vec_len l.handles ≡ l.worker;
  left : l.worker + into_iter_len l.outlet-iterator ≡ vec_len l.fn.outlets;
  room : vec_len l.fn.outlets ≤ vec_capacity l.handles;
  registry : l.registry ≡ registry_state l.fn.registry.lists l.worker l.fn.registry.seen;
}
