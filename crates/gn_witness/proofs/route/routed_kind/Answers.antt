use Rattle.std.proofs.Common.{◌≡◌, reverse, Option, Some, None, refl, sym, ◌∙◌}
use Rattle.std.specs.Option.{IfSome}
use Rattle.gn_rules.specs.History.{sends_of}
use Rattle.gn_wire.specs.declared.kind.Kind.{Kind}
use Rattle.gn_witness.specs.Route.{Routes}
use Rattle.gn_witness.proofs.RouteLemmas.{not_none, routes_as}
use Rattle.gn_witness.proofs.route.routed_kind.Goals as goal

pub returns-in-Route : goal.returns-in-Route
returns-in-Route g c =
    let some = not_none c.sends.result.now (sends_of c.args.step.now.reply) c.is_empty.result c.if-is_empty.false c.is_empty.ensures c.sends.ensures in
    elim c.flying_kind.result as (λ (o : Option Kind). c.flying_kind.result ≡ o → IfSome o (λ kind. Routes c.args.config.now (reverse c.args.past.now) c.args.step.now kind)) [
      | None ↦ λ e. tt
      | Some kind ↦ λ e.
          routes_as c.answers_go_back.ensures c.pushes_go_back.ensures c.requests_spread.ensures c.life_falls.ensures c.args.config.now (reverse c.args.past.now)
          c.args.step.now c.in-Route.ticket kind (c.is_next.ensures c.if-not-is_next.false) some c.in-Route.is (sym c.flying_kind.ensures ∙ e)
    ] refl
