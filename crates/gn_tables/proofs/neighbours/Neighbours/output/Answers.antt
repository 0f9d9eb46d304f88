use Rattle.std.proofs.Common.{ℕ, ap, arith, refl, subst, sym}
use Rattle.std.specs.List.Sorted.{IsStrictlyIncreasing}
use Rattle.std.specs.Map.{keys_of}
use Rattle.std.specs.Option.{option_map}
use Rattle.gn_tables.specs.Outputs.{IsRing}
use Rattle.gn_tables.proofs.OutputLemmas.{found_ring, lookup_rows}
use Rattle.gn_tables.proofs.PlaceLemmas.{found_within, placed, unplaced}
use Rattle.gn_tables.proofs.neighbours.Neighbours.output.Goals as goal

pub find_row-requires : goal.find_row-requires
find_row-requires g c = subst (λ rows. IsStrictlyIncreasing (keys_of rows)) (sym c.deref.ensures.value) c.self.invariant.ascending

pub index-requires : goal.index-requires
index-requires g c = omega (arith, found_within c.args.connection c.deref.result.now c.in_ok-place.place c.in_ok-place.ensures, c.deref.ensures.len)

pub returns-in_err-place : goal.returns-in_err-place
returns-in_err-place g c =
    rw (← c.self.view_is, lookup_rows c.args.connection c.self.inside.rows.items, unplaced c.args.connection c.self.inside.rows.items c.deref.result.now c.deref.ensures.value c.in_err-place.ensures) (ap (option_map (λ (r : ℕ × ℕ). r.1)) c.from_residual.ensures)

pub overflow_cast-result : goal.overflow_cast-result
overflow_cast-result g c =
    let ring : IsRing c.self.inside.room c.index.result.now.1 =
    found_ring c.args.connection c.self.inside.most c.self.inside.room c.self.inside.rows.items c.index.result.now.1 c.self.invariant (placed c.args.connection c.self.inside.rows.items c.deref.result.now c.deref.ensures.value c.in_ok-place.place c.in_ok-place.ensures c.index.result.now c.index.ensures) in
    omega (arith, ring.1, c.self.invariant.room_fits, c.len.ensures.len)

pub returns : goal.returns
returns g c =
    rw (← c.self.view_is, lookup_rows c.args.connection c.self.inside.rows.items, placed c.args.connection c.self.inside.rows.items c.deref.result.now c.deref.ensures.value c.in_ok-place.place c.in_ok-place.ensures c.index.result.now c.index.ensures, c.len.ensures.len) refl
