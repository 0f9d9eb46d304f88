-- The limits of a configuration's numbers, and of a run.
use Rattle.std.specs.Prelude.{ℕ, ◌≤◌, max}
use Rattle.gn_rules.specs.declared.limits.Numbers.{Numbers}

-- a number is from 1 to the limit
pub record IsWithin (number limit : ℕ) : Type 0 where
  pub least : 1 ≤ number
  pub greatest : number ≤ limit

-- the greatest that each number of a configuration may be
abbrev pub most : Numbers
most = record { neighbours = 256; seen = 65536; servents = 65536; stage = 4096; out = 4096; steps = 4294967295; life = 255; crowd = 4096 }

-- each number of a configuration is from 1 to its limit; the limit on a descriptor's life and the threshold of a connection may
-- be 0, which is none
pub record AreWithin (n : Numbers) : Type 0 where
  pub neighbours : IsWithin n.neighbours most.neighbours
  pub seen : IsWithin n.seen most.seen
  pub servents : IsWithin n.servents most.servents
  pub stage : IsWithin n.stage most.stage
  pub out : IsWithin n.out most.out
  pub steps : IsWithin n.steps most.steps
  pub life : n.life ≤ most.life
  pub crowd : n.crowd ≤ most.crowd

-- how many reads of a link may give bytes where the history may have so many steps: as many, but at least a million
abbrev pub most_reads : ℕ → ℕ
most_reads steps = max steps 1000000

-- the most links of a run
abbrev pub most_links : ℕ
most_links = 256

-- the most workers of a run
abbrev pub most_workers : ℕ
most_workers = 64

-- this many workers may work at a run
abbrev pub IsCrew : ℕ → Type 0
IsCrew workers = IsWithin workers most_workers
