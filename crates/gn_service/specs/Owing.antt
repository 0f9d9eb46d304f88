-- What a step says of the steps of a run.
use Rattle.std.specs.Prelude.{ℕ}
use Rattle.gn_links.specs.declared.gate.Made.{Made}
use Rattle.gn_links.specs.declared.gate.Made.TheVariants.{Admitted, Routed}

-- the steps of a run that one makes certain: itself, and after an admission the route, which counts no more when it is made
abbrev pub certain_steps : Made → ℕ
certain_steps (Admitted ticket) = 2
certain_steps Routed = 0
certain_steps step = 1
