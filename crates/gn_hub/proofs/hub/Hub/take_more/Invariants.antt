use Rattle.std.proofs.Common.{◌≡◌, false, []}
use Rattle.gn_hub.specs.Receipts.{AreKept, HasTakenMore}
use Rattle.gn_hub.specs.Waking.{LeavesWaiting}
use Rattle.gn_hub.specs.declared.wakes.Wakes.TheVariants.{Nobody}
use Rattle.gn_hub.proofs.hub.Hub.take_more.Given as goal

abbrev pub invariant-loop : goal.invariant-loop
invariant-loop g l =
    HasTakenMore l.counter l.c l.initial.me l.me × (l.closes ≡ false → LeavesWaiting Nobody [] l.initial.self l.self)
    × AreKept l.initial.kept.items l.kept.items l.initial.me l.me
