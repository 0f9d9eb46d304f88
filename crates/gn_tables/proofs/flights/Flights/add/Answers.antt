use Rattle.std.proofs.Common.{◌<◌, ap, refl, subst, sym, ◌∙◌}
use Rattle.std.specs.FinMap as map
use Rattle.std.specs.Ordering.{nat_cmp}
use Rattle.gn_tables.specs.Origins.{AreCounts}
use Rattle.gn_tables.proofs.MapLemmas.{put_fits, put_new}
use Rattle.gn_tables.proofs.OriginLemmas.{counts_added, counts_fit}
use Rattle.gn_tables.proofs.flights.Flights.add.Goals as goal

pub raise-requires-clause-fits : goal.raise-requires-clause-fits
raise-requires-clause-fits g c =
    let m = map.from_entries {R = nat_cmp} c.self.inside.flights.entries in
    let most = c.self.inside.most in
    counts_fit c.reserve.new.self.entries m most
    (subst (λ es. AreCounts es (record { flights = m; most = most })) (sym c.reserve.ensures.entries) c.self.invariant.2)
    (subst (λ f. map.len f.flights < f.most) (sym c.self.view_is) c.requires.few) c.self.invariant.1 c.args.from

pub invariant_of-self-2 : goal.invariant_of-self-2
invariant_of-self-2 g c =
    let m = map.from_entries {R = nat_cmp} c.self.inside.flights.entries in
    let most = c.self.inside.most in
    let fresh = ap (λ f. map.get f.flights c.args.ticket) c.self.view_is ∙ c.requires.fresh in
    let are = subst (λ es. AreCounts es (record { flights = m; most = most })) (sym c.reserve.ensures.entries) c.self.invariant.2 in (
      put_fits c.self.inside.flights c.insert.new.self.entries c.args.ticket most _ c.insert.ensures.unique c.in_ok-insert.ensures.entries
          fresh (subst (λ f. map.len f.flights < f.most) (sym c.self.view_is) c.requires.few),
      c.self.invariant.1,
      subst (λ n. AreCounts c.raise.new.counts.entries (record { flights = n; most = most }))
          (sym (put_new c.self.inside.flights c.insert.new.self.entries c.args.ticket _ c.in_ok-insert.ensures.entries fresh))
          (counts_added c.reserve.new.self.entries c.raise.new.counts.entries m most c.args.ticket _ are fresh c.raise.ensures),
    )

pub returns-clause-ok : goal.returns-clause-ok
returns-clause-ok g c =
    rw (
      ← c.self.view_is,
      put_new c.self.inside.flights c.insert.new.self.entries c.args.ticket _ c.in_ok-insert.ensures.entries (ap (λ f. map.get f.flights c.args.ticket) c.self.view_is ∙ c.requires.fresh),
    ) refl
