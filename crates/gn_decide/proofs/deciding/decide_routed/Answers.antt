use Rattle.std.proofs.Common.{◌≡◌, refl, sym, ◌∙◌}
use Rattle.gn_wire.specs.declared.kind.Kind.{Kind}
use Rattle.gn_wire.specs.declared.kind.Kind.TheVariants.{Push}
use Rattle.gn_rules.specs.declared.routing.Routing.TheVariants.{Pushed}
use Rattle.gn_rules.specs.Routings.{routing_of}
use Rattle.gn_decide.proofs.deciding.decide_routed.Goals as goal

-- a Push alone is routed to a servent
is_push : (kind : Kind) → routing_of kind ≡ Pushed → kind ≡ Push
is_push Push e = refl
is_push kind e = absurd (cc)

pub decide_push-requires : goal.decide_push-requires
decide_push-requires g c = is_push c.args.packet.now.kind (sym c.requires ∙ c.in-Pushed.is)
