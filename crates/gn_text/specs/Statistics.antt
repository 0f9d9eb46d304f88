-- The text of the counters.
use Rattle.std.specs.Prelude.{ℕ, List, ◌++◌, codes, decimal}
use Rattle.std.specs.List.{flat_map}
use Rattle.gn_rules.specs.declared.statistics.Counter.{Counter}
use Rattle.gn_rules.specs.declared.statistics.Stats.{Stats}
use Rattle.gn_rules.specs.Statistics.{count_in, counters}
use Rattle.gn_numbers.specs.Names.{counter_name}

-- a counter's name and number
abbrev pub count_text : Stats → Counter → List ℕ
count_text n counter = codes " " ++ counter_name counter ++ codes " " ++ decimal (count_in counter n)

-- some counters' names and numbers
abbrev pub counts_text : Stats → List Counter → List ℕ
counts_text n some = flat_map (count_text n) some

-- the line of the counters
abbrev pub stats_text : Stats → List ℕ
stats_text n = codes "stats" ++ counts_text n counters ++ codes "\n"
