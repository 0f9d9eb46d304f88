-- The numbers of a configuration, their limits, and the first that is out of its limit.
use Rattle.std.specs.Prelude.{◌≡◌, ◌≤◌}
use Rattle.gn_rules.specs.declared.config.Config.{Config}
use Rattle.gn_rules.specs.declared.limits.Numbers.{Numbers}
use Rattle.gn_rules.specs.declared.config.Own.{Own}
use Rattle.gn_rules.specs.declared.config.Field.{Field}
use Rattle.gn_rules.specs.declared.config.Field.TheVariants.{Neighbours, Seen, Servents, Stage, Out, Steps, Crowd}
use Rattle.gn_rules.specs.Limits.{IsWithin, most}

-- a configuration keeps the numbers and the servent that it was made of
abbrev pub IsMadeOf : Config → Numbers → Own → Type 0
IsMadeOf s numbers own = (s.numbers ≡ numbers) × (s.own ≡ own)

-- the number of this name is within its limit
abbrev pub IsIn : Field → Numbers → Type 0
IsIn Neighbours n = IsWithin n.neighbours most.neighbours
IsIn Seen n = IsWithin n.seen most.seen
IsIn Servents n = IsWithin n.servents most.servents
IsIn Stage n = IsWithin n.stage most.stage
IsIn Out n = IsWithin n.out most.out
IsIn Steps n = IsWithin n.steps most.steps
IsIn Crowd n = n.crowd ≤ most.crowd

-- the numbers before this name are within their limits
abbrev pub AreBefore : Field → Numbers → Type 0
AreBefore Neighbours n = Unit {0}
AreBefore Seen n = IsIn Neighbours n
AreBefore Servents n = IsIn Neighbours n × IsIn Seen n
AreBefore Stage n = IsIn Neighbours n × IsIn Seen n × IsIn Servents n
AreBefore Out n = IsIn Neighbours n × IsIn Seen n × IsIn Servents n × IsIn Stage n
AreBefore Steps n = IsIn Neighbours n × IsIn Seen n × IsIn Servents n × IsIn Stage n × IsIn Out n
AreBefore Crowd n = IsIn Neighbours n × IsIn Seen n × IsIn Servents n × IsIn Stage n × IsIn Out n × IsIn Steps n

-- the first number that isn't within its limit
abbrev pub IsFirstOut : Field → Numbers → Type 0
IsFirstOut field n = AreBefore field n × ¬ (IsIn field n)
