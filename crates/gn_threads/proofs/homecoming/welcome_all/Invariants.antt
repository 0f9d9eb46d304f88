use Rattle.std.proofs.Common.{◌≡◌, ◌≤◌, ◌+◌, ◌++◌, map, vec_items, vec_len}
use Rattle.std.specs.Prelude.{vec_capacity}
use Rattle.std.specs.Vec.Iter.{into_iter_items, into_iter_len}
use Rattle.gn_report.specs.Accounts.{unkept_list}
use Rattle.gn_threads.specs.Homecoming.{AreAllOut, receipts_in, with_all_home}
use Rattle.gn_threads.proofs.homecoming.welcome_all.Given as goal

abbrev pub invariant-loop-worker : goal.invariant-loop-worker
invariant-loop-worker g l = record {
  hub : l.hub ≡ l.fn.hub;
  many : vec_len l.made + into_iter_len l.worker-iterator ≡ vec_len l.fn.workers;
  room : vec_len l.fn.workers ≤ vec_capacity l.made;
  out : AreAllOut l.registry.lists (into_iter_items l.worker-iterator);
  lists : with_all_home l.registry.lists (into_iter_items l.worker-iterator) ≡ with_all_home l.fn.registry.lists (vec_items l.fn.workers);
  receipts : map unkept_list (vec_items l.made) ++ map receipts_in (into_iter_items l.worker-iterator) ≡ map receipts_in (vec_items l.fn.workers);
}
