use Rattle.std.proofs.Common.{arith, drop, refl, subst, sym}
use Rattle.std.specs.List.Sorted.{IsStrictlyIncreasing}
use Rattle.std.specs.Map.{keys_of}
use Rattle.gn_tables.proofs.OutputLemmas.{popped_row, none_changed, lookup_rows}
use Rattle.gn_tables.proofs.PlaceLemmas.{found_within, placed, unplaced, written}
use Rattle.gn_tables.proofs.neighbours.Neighbours.pop_near.Goals as goal

pub place_of-requires : goal.place_of-requires
place_of-requires g c = subst (λ rows. IsStrictlyIncreasing (keys_of rows)) (sym c.deref.ensures.value) c.self.invariant.ascending

pub index_mut-requires : goal.index_mut-requires
index_mut-requires g c = omega (arith, found_within c.args.connection c.deref.result.now c.in_ok-place.place c.in_ok-place.ensures, c.deref.ensures.len)

pub returns-in_err-place-clause-first : goal.returns-in_err-place-clause-first
returns-in_err-place-clause-first g c =
    rw (← c.self.view_is, lookup_rows c.args.connection c.self.inside.rows.items, unplaced c.args.connection c.self.inside.rows.items c.deref.result.now c.deref.ensures.value c.in_err-place.ensures) c.from_residual.ensures

pub returns-in_err-place-clause-rest : goal.returns-in_err-place-clause-rest
returns-in_err-place-clause-rest g c =
    rw (← c.self.view_is, none_changed c.args.connection (drop 1) c.self.inside.rows.items (unplaced c.args.connection c.self.inside.rows.items c.deref.result.now c.deref.ensures.value c.in_err-place.ensures)) refl

pub invariant_of-self : goal.invariant_of-self
invariant_of-self g c =
    (popped_row c.args.connection c.self.inside.most c.self.inside.room c.self.inside.rows.items _ c.index_mut.result.now.1 c.pop_front.new.self c.self.invariant
    (record {
      found = placed c.args.connection c.self.inside.rows.items c.deref.result.now c.deref.ensures.value c.in_ok-place.place c.in_ok-place.ensures c.index_mut.result.now c.index_mut.ensures.value;
      is = written c.args.connection c.self.inside.rows.items c.deref.result.now c.deref.ensures.value c.in_ok-place.place c.in_ok-place.ensures c.index_mut.result.now c.pop_front.new.self c.index_mut.ensures.value;
    }) c.pop_front.ensures.items).0

pub returns-clause-first : goal.returns-clause-first
returns-clause-first g c =
    rw (← c.self.view_is, lookup_rows c.args.connection c.self.inside.rows.items, placed c.args.connection c.self.inside.rows.items c.deref.result.now c.deref.ensures.value c.in_ok-place.place c.in_ok-place.ensures c.index_mut.result.now c.index_mut.ensures.value) c.pop_front.ensures.value

pub returns-clause-rest : goal.returns-clause-rest
returns-clause-rest g c =
    rw (← c.self.view_is)
    (popped_row c.args.connection c.self.inside.most c.self.inside.room c.self.inside.rows.items _ c.index_mut.result.now.1 c.pop_front.new.self c.self.invariant
    (record {
      found = placed c.args.connection c.self.inside.rows.items c.deref.result.now c.deref.ensures.value c.in_ok-place.place c.in_ok-place.ensures c.index_mut.result.now c.index_mut.ensures.value;
      is = written c.args.connection c.self.inside.rows.items c.deref.result.now c.deref.ensures.value c.in_ok-place.place c.in_ok-place.ensures c.index_mut.result.now c.pop_front.new.self c.index_mut.ensures.value;
    }) c.pop_front.ensures.items).1
