use Rattle.std.proofs.Common.{◌≡◌, ℕ, List, map, take, vec_items}
use Rattle.gn_wire.specs.Packet.{Packet}
use Rattle.gn_rules.specs.declared.event.Event.TheVariants.{Admit}
use Rattle.gn_bodies.specs.Admitting.{jobs_by}
use Rattle.gn_bodies.proofs.several.jobs_of.Given as goal

abbrev pub invariant-loop-receipt : goal.invariant-loop-receipt
invariant-loop-receipt g l =
    (c : ℕ) (ds : List Packet) → map (λ r. r.event) l.receipts ≡ map (Admit c) ds → vec_items l.jobs ≡ jobs_by (take l.receipt-index l.receipts)
