use Rattle.std.proofs.Common.{[], ap, arith, refl, subst, sym, ◌∙◌}
use Rattle.std.specs.FinMap as map
use Rattle.std.specs.Ordering.{nat_cmp}
use Rattle.gn_tables.specs.Origins.{AreCounts}
use Rattle.gn_tables.proofs.MapLemmas.{get_entries, remove_at}
use Rattle.gn_tables.proofs.OriginLemmas.{counted, counts_less}
use Rattle.gn_tables.proofs.flights.Flights.finish_near.Goals as goal

pub returns-in_err-flight-clause-value : goal.returns-in_err-flight-clause-value
returns-in_err-flight-clause-value g c =
    c.from_residual.ensures ∙ sym c.in_err-flight.was ∙ c.take_out.ensures.value ∙ sym (get_entries c.self.inside.flights.entries c.args.ticket)
    ∙ ap (λ f. map.get f.flights c.args.ticket) c.self.view_is

pub returns-in_err-flight-clause-rest : goal.returns-in_err-flight-clause-rest
returns-in_err-flight-clause-rest g c =
    rw (← c.self.view_is, remove_at c.self.inside.flights.entries c.take_out.new.flights.entries c.args.ticket c.take_out.ensures.others) refl

pub lower-requires : goal.lower-requires
lower-requires g c = record {
  some = counted c.self.inside.counts.entries [] (map.from_entries {R = nat_cmp} c.self.inside.flights.entries) c.self.inside.most c.args.ticket c.in_ok-flight.flight c.self.invariant.2
      (get_entries c.self.inside.flights.entries c.args.ticket ∙ sym c.take_out.ensures.value ∙ c.in_ok-flight.was);
}

pub invariant_of-self-2 : goal.invariant_of-self-2
invariant_of-self-2 g c =
    let m = map.from_entries {R = nat_cmp} c.self.inside.flights.entries in
    let most = c.self.inside.most in
    let there = get_entries c.self.inside.flights.entries c.args.ticket ∙ sym c.take_out.ensures.value ∙ c.in_ok-flight.was in (
      omega (arith, c.take_out.ensures.few, c.self.invariant.0),
      c.self.invariant.1,
      subst (λ n. AreCounts c.lower.new.counts.entries (record { flights = n; most = most }))
          (sym (remove_at c.self.inside.flights.entries c.take_out.new.flights.entries c.args.ticket c.take_out.ensures.others))
          (counts_less c.self.inside.counts.entries c.lower.new.counts.entries m most c.args.ticket c.in_ok-flight.flight c.self.invariant.2 there c.lower.ensures),
    )

pub returns-clause-value : goal.returns-clause-value
returns-clause-value g c =
    sym c.in_ok-flight.was ∙ c.take_out.ensures.value ∙ sym (get_entries c.self.inside.flights.entries c.args.ticket)
    ∙ ap (λ f. map.get f.flights c.args.ticket) c.self.view_is

pub returns-clause-rest : goal.returns-clause-rest
returns-clause-rest g c =
    rw (← c.self.view_is, remove_at c.self.inside.flights.entries c.take_out.new.flights.entries c.args.ticket c.take_out.ensures.others) refl
