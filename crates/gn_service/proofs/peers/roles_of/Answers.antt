use Rattle.std.proofs.Common.{set, ap, ◌∙◌, rules}
use Rattle.gn_shake.specs.declared.role.Role.TheVariants.{Accepting, Calling}
use Rattle.gn_service.proofs.RoleLemmas.{first_ones, one_more}
use Rattle.gn_service.proofs.peers.roles_of.Goals as goal

pub loop-link-preserved : goal.loop-link-preserved
loop-link-preserved c =
    record {
      within = search rules;
      roles = ap (λ xs. set xs c.loop-link.link Calling) c.loop-link.invariant.roles ∙ one_more Calling Accepting c.loop-link.link 256 (search rules);
    }

pub returns : goal.returns
returns c = first_ones Calling Accepting c.args.calls c.args.links 256 c.loop-link.link c.loop-link.roles c.loop-link.invariant.roles (search rules) c.requires.0 c.requires.1
