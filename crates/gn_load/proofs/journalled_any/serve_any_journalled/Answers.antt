use Rattle.std.proofs.Common.{refl}
use Rattle.gn_load.proofs.journalled_any.serve_any_journalled.Goals as goal

pub returns : goal.returns
returns g c = c.serve_past_journalled.ensures.any refl
