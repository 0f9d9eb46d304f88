use Rattle.std.proofs.Common.{◌≡◌, ◌∙◌, Some, ap, nat_eq, subst, sym}
use Rattle.std.specs.Map.{lookup}
use Rattle.std.proofs.lemmas.Map.Views.{exact_unsigned_eq}
use Rattle.gn_tables.proofs.flights.is_at.Goals as goal

pub returns-in-Some : goal.returns-in-Some
returns-in-Some g c = λ is.
    let same = exact_unsigned_eq c.in-Some.key.now c.args.ticket is in (
      c.in-Some._flight.now,
      sym c.in-Some.ensures.entry ∙ ap (λ k. Some (k, c.in-Some._flight.now)) same,
      subst (λ k. lookup (nat_eq k) c.args.flights.now.entries ≡ Some c.in-Some._flight.now) same c.in-Some.ensures.value,
    )
