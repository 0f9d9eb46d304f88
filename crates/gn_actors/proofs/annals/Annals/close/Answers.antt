use Rattle.std.proofs.Common.{◌∙◌, subst, sym}
use mathlib.Core.List.{IsPrefix}
use Rattle.gn_actors.specs.Registry.{AreWhole}
use Rattle.gn_actors.proofs.RegistryLemmas.{closed_whole}
use Rattle.gn_actors.proofs.annals.Annals.close.Goals as goal

pub returns-clause-whole : goal.returns-clause-whole
returns-clause-whole g c =
    let r = c.registry.inside in
    let steps = c.audit.new.self in
    let begun : IsPrefix r.seen.items steps = subst (λ w. IsPrefix r.seen.items w) (sym c.audit.ensures.same.0) c.look.ensures.began in
    let total = sym c.audit.ensures.same.1 ∙ c.audit.ensures.total in
    subst (λ w. AreWhole steps w.lists) c.registry.view_is
    (closed_whole _ c.fitting_are_mine.ensures _ r.share.parts r.share.amount r.out r.many r.lists.items r.seen.items steps c.registry.invariant begun total)

pub returns-clause-began : goal.returns-clause-began
returns-clause-began g c =
    let seen = c.registry.inside.seen.items in
    let steps = c.audit.new.self in
    subst (λ w. IsPrefix w.seen steps) c.registry.view_is (subst (λ w. IsPrefix seen w) (sym c.audit.ensures.same.0) c.look.ensures.began)
