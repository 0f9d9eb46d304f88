-- What is counted of the text of a history.
use Rattle.std.specs.Prelude.{◌≡◌, ℕ, List, ◌++◌, reverse}
use Rattle.std.specs.List.{flat_map}
use Rattle.gn_comments.specs.Comments.{bare}
use Rattle.gn_comments.specs.Comments.Place.{start}
use Rattle.gn_rules.specs.declared.config.Config.{Config}
use Rattle.gn_rules.specs.declared.receipt.Step.{Step}
use Rattle.gn_rules.specs.Statistics.{stats_of}
use Rattle.gn_text.specs.Header.{header_text}
use Rattle.gn_text.specs.Steps.{step_text}
use Rattle.gn_numbers.specs.declared.titles.Text.TheVariants.{History}
use Rattle.gn_metrics.specs.Counting.{after_bytes, at_first, listed}

-- what is counted of the text of a history, whole lines of it, are the counters of its steps
abbrev pub CountsHistories : Type 0 → Type 0
CountsHistories A =
    (s : Config) (steps : List (Step A))
    → (after_bytes at_first (header_text History s ++ flat_map step_text steps)).counts ≡ listed (stats_of (reverse steps))

-- what is counted of a text is what is counted of it without its comments
abbrev pub CountsNoComments : Type 0
CountsNoComments = (bytes : List ℕ) → (after_bytes at_first bytes).counts ≡ (after_bytes at_first (bare start bytes)).counts
