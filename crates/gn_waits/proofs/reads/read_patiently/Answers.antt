use Rattle.std.proofs.Common.{◌∙◌, ◌++◌, ap, refl, take}
use Rattle.gn_waits.proofs.reads.read_patiently.Goals as goal

pub loop-init : goal.loop-init
loop-init g c = record { told = refl }

pub returns-in-Ok-clause-told : goal.returns-in-Ok-clause-told
returns-in-Ok-clause-told g c = c.in-Ok.ensures.told ∙ ap (λ bytes. bytes ++ take c.in-Ok.n c.read_room.new.buffer) c.loop.invariant.told
