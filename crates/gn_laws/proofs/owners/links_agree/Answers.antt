use Rattle.gn_laws.proofs.OwnerLemmas.{links_agree}
use Rattle.gn_laws.proofs.owners.links_agree.Goals as goal

pub returns : goal.returns
returns g c = links_agree _
