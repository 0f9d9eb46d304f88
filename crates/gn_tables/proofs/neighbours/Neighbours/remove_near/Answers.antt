use Rattle.std.proofs.Common.{arith, refl, subst, sym, ◌∙◌}
use Rattle.std.specs.List.Sorted.{IsStrictlyIncreasing}
use Rattle.std.specs.Map.{keys_of}
use Rattle.gn_tables.specs.Outputs.{IsRing}
use Rattle.gn_tables.proofs.OutputLemmas.{found_ring, lookup_rows, none_left_out, removed}
use Rattle.gn_tables.proofs.PlaceLemmas.{found_within, placed, taken, unplaced}
use Rattle.gn_tables.proofs.neighbours.Neighbours.remove_near.Goals as goal

pub place_of-requires : goal.place_of-requires
place_of-requires g c = subst (λ rows. IsStrictlyIncreasing (keys_of rows)) (sym c.deref.ensures.value) c.self.invariant.ascending

pub remove-ring-requires : goal.remove-ring-requires
remove-ring-requires g c = omega (arith, found_within c.args.connection c.deref.result.now c.in_ok-place.place c.in_ok-place.ensures, c.deref.ensures.len)

pub returns-in_err-place-clause-value : goal.returns-in_err-place-clause-value
returns-in_err-place-clause-value g c =
    rw (← c.self.view_is, lookup_rows c.args.connection c.self.inside.rows.items, unplaced c.args.connection c.self.inside.rows.items c.deref.result.now c.deref.ensures.value c.in_err-place.ensures) c.from_residual.ensures

pub returns-in_err-place-clause-rest : goal.returns-in_err-place-clause-rest
returns-in_err-place-clause-rest g c =
    rw (← c.self.view_is, none_left_out c.args.connection c.self.inside.rows.items (unplaced c.args.connection c.self.inside.rows.items c.deref.result.now c.deref.ensures.value c.in_err-place.ensures)) refl

pub overflow_cast-result : goal.overflow_cast-result
overflow_cast-result g c =
    let ring : IsRing c.self.inside.room c.remove-ring.result.1 =
    found_ring c.args.connection c.self.inside.most c.self.inside.room c.self.inside.rows.items c.remove-ring.result.1 c.self.invariant (placed c.args.connection c.self.inside.rows.items c.deref.result.now c.deref.ensures.value c.in_ok-place.place c.in_ok-place.ensures c.remove-ring.result c.remove-ring.ensures.value) in
    omega (arith, ring.1, c.self.invariant.room_fits, c.len.ensures.len)

pub invariant_of-self : goal.invariant_of-self
invariant_of-self g c =
    (removed c.args.connection c.self.inside.most c.self.inside.room c.self.inside.rows.items c.remove-ring.new.self.items c.self.invariant (c.remove-ring.ensures.items ∙ taken c.args.connection c.self.inside.rows.items c.deref.result.now c.deref.ensures.value c.in_ok-place.place c.in_ok-place.ensures)).0

pub returns-clause-value : goal.returns-clause-value
returns-clause-value g c =
    rw (← c.self.view_is, lookup_rows c.args.connection c.self.inside.rows.items, placed c.args.connection c.self.inside.rows.items c.deref.result.now c.deref.ensures.value c.in_ok-place.place c.in_ok-place.ensures c.remove-ring.result c.remove-ring.ensures.value, c.len.ensures.len) refl

pub returns-clause-rest : goal.returns-clause-rest
returns-clause-rest g c =
    rw (← c.self.view_is)
    (removed c.args.connection c.self.inside.most c.self.inside.room c.self.inside.rows.items c.remove-ring.new.self.items c.self.invariant (c.remove-ring.ensures.items ∙ taken c.args.connection c.self.inside.rows.items c.deref.result.now c.deref.ensures.value c.in_ok-place.place c.in_ok-place.ensures)).1
