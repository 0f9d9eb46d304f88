use Rattle.std.proofs.Common.{ℕ, Option, Some, ap, arith, subst, sym}
use Rattle.std.specs.List.Sorted.{IsStrictlyIncreasing}
use Rattle.std.specs.Borrow.{Bor}
use Rattle.std.specs.Map.{keys_of}
use Rattle.std.specs.Option.{option_copied, option_map}
use Rattle.gn_wire.specs.Packet.{Packet}
use Rattle.gn_tables.proofs.OutputLemmas.{lookup_rows}
use Rattle.gn_tables.proofs.PlaceLemmas.{found_within, placed, unplaced}
use Rattle.gn_tables.proofs.neighbours.Neighbours.front.Goals as goal

pub find_row-requires : goal.find_row-requires
find_row-requires g c = subst (λ rows. IsStrictlyIncreasing (keys_of rows)) (sym c.deref.ensures.value) c.self.invariant.ascending

pub index-requires : goal.index-requires
index-requires g c = omega (arith, found_within c.args.connection c.deref.result.now c.in_ok-place.place c.in_ok-place.ensures, c.deref.ensures.len)

pub returns-in_err-place : goal.returns-in_err-place
returns-in_err-place g c =
    rw (← c.self.view_is, lookup_rows c.args.connection c.self.inside.rows.items, unplaced c.args.connection c.self.inside.rows.items c.deref.result.now c.deref.ensures.value c.in_err-place.ensures)
    (ap (option_map (λ (r : ℕ × Option (Bor Packet)). option_copied r.1)) c.from_residual.ensures)

pub returns : goal.returns
returns g c =
    rw (← c.self.view_is, lookup_rows c.args.connection c.self.inside.rows.items, placed c.args.connection c.self.inside.rows.items c.deref.result.now c.deref.ensures.value c.in_ok-place.place c.in_ok-place.ensures c.index.result.now c.index.ensures)
    (ap Some c.front.ensures)
