use Rattle.std.proofs.Common.{refl}
use Rattle.gn_actors.proofs.RegistryLemmas.{grown}
use Rattle.gn_actors.proofs.registry.Registry.grow.Goals as goal

pub invariant_of-self : goal.invariant_of-self
invariant_of-self g c =
    let r = c.self.inside in
    grown _ r.share.parts r.share.amount r.out r.many _ c.args.by r.lists.items _ r.seen.items c.self.invariant refl c.grown.ensures
