use Rattle.std.proofs.Common.{reverse, subst}
use Rattle.std.specs.List.{Contains}
use Rattle.gn_rules.specs.Output.{taken}
use Rattle.gn_witness.proofs.LinkLemmas.{admits_its}
use Rattle.gn_witness.proofs.links.is_carried.Goals as goal

pub returns-in-Admit : goal.returns-in-Admit
returns-in-Admit g c = λ given p h.
    let its = admits_its _ _ _ _ _ p c.in-Admit.is h in
    subst (λ x. Contains (taken (reverse c.args.first.now) c.args.c) x) its.1 (c.is_given.ensures given its.0)
