use Rattle.std.proofs.Common.{arith}
use Rattle.gn_stage.proofs.laws.queue_is_bounded.Goals as goal

pub returns : goal.returns
returns g items views port capacity desk kept at is within =
    let room = ((kept.fits port desk at).as_desk is).room in
    let few = kept.few in
    omega arith
