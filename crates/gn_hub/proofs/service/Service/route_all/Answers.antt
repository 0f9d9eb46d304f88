use Rattle.std.proofs.Common.{map, refl}
use Rattle.gn_rules.specs.declared.event.Event.TheVariants.{Route}
use Rattle.gn_hub.proofs.ProgressLemmas.{not_begun, routes_below}
use Rattle.gn_hub.proofs.service.Service.route_all.Goals as goal

pub returns-then-is_err : goal.returns-then-is_err
returns-then-is_err g c =
    record { made = not_begun (map (λ j. Route j.0) c.args.jobs.now) c.no_memory.result c.args.me.now c.args.me.now c.no_memory.ensures.done c.no_memory.ensures.refusal (routes_below _ c.args.jobs.now 0 c.requires.some) refl }
