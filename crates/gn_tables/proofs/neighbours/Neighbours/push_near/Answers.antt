use Rattle.std.proofs.Common.{arith, refl, subst, sym}
use Rattle.std.specs.List.Sorted.{IsStrictlyIncreasing}
use Rattle.std.specs.Map.{keys_of}
use Rattle.gn_tables.proofs.OutputLemmas.{pushed_row, lookup_rows}
use Rattle.gn_tables.proofs.PlaceLemmas.{found_within, placed, unplaced, written}
use Rattle.gn_tables.proofs.neighbours.Neighbours.push_near.Goals as goal

pub place_of-requires : goal.place_of-requires
place_of-requires g c = subst (λ rows. IsStrictlyIncreasing (keys_of rows)) (sym c.deref.ensures.value) c.self.invariant.ascending

pub index_mut-requires : goal.index_mut-requires
index_mut-requires g c = omega (arith, found_within c.args.connection c.deref.result.now c.in-Some.place c.in-Some.ensures, c.deref.ensures.len)

pub returns-in_default-clause-err : goal.returns-in_default-clause-err
returns-in_default-clause-err g c =
    rw (← c.self.view_is, lookup_rows c.args.connection c.self.inside.rows.items, unplaced c.args.connection c.self.inside.rows.items c.deref.result.now c.deref.ensures.value c.in_default.ensures) (refl, refl, refl)

pub invariant_of-self : goal.invariant_of-self
invariant_of-self g c =
    (pushed_row c.args.connection c.self.inside.most c.self.inside.room c.self.inside.rows.items _ c.index_mut.result.now.1 c.put.new.output c.self.invariant
    (record {
      found = placed c.args.connection c.self.inside.rows.items c.deref.result.now c.deref.ensures.value c.in-Some.place c.in-Some.ensures c.index_mut.result.now c.index_mut.ensures.value;
      is = written c.args.connection c.self.inside.rows.items c.deref.result.now c.deref.ensures.value c.in-Some.place c.in-Some.ensures c.index_mut.result.now c.put.new.output c.index_mut.ensures.value;
    })
    c.args.packet c.put.result (record { variant = c.put.ensures.variant; ok = c.put.ensures.ok; err = c.put.ensures.err })).rings

pub returns-clause-ok : goal.returns-clause-ok
returns-clause-ok g c =
    rw (← c.self.view_is)
    (pushed_row c.args.connection c.self.inside.most c.self.inside.room c.self.inside.rows.items _ c.index_mut.result.now.1 c.put.new.output c.self.invariant
    (record {
      found = placed c.args.connection c.self.inside.rows.items c.deref.result.now c.deref.ensures.value c.in-Some.place c.in-Some.ensures c.index_mut.result.now c.index_mut.ensures.value;
      is = written c.args.connection c.self.inside.rows.items c.deref.result.now c.deref.ensures.value c.in-Some.place c.in-Some.ensures c.index_mut.result.now c.put.new.output c.index_mut.ensures.value;
    })
    c.args.packet c.put.result (record { variant = c.put.ensures.variant; ok = c.put.ensures.ok; err = c.put.ensures.err })).ok

pub returns-clause-err : goal.returns-clause-err
returns-clause-err g c =
    rw (← c.self.view_is)
    (pushed_row c.args.connection c.self.inside.most c.self.inside.room c.self.inside.rows.items _ c.index_mut.result.now.1 c.put.new.output c.self.invariant
    (record {
      found = placed c.args.connection c.self.inside.rows.items c.deref.result.now c.deref.ensures.value c.in-Some.place c.in-Some.ensures c.index_mut.result.now c.index_mut.ensures.value;
      is = written c.args.connection c.self.inside.rows.items c.deref.result.now c.deref.ensures.value c.in-Some.place c.in-Some.ensures c.index_mut.result.now c.put.new.output c.index_mut.ensures.value;
    })
    c.args.packet c.put.result (record { variant = c.put.ensures.variant; ok = c.put.ensures.ok; err = c.put.ensures.err })).err
