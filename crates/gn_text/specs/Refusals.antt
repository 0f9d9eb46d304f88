-- The text of a refusal.
use Rattle.std.specs.Prelude.{ℕ, List, ◌++◌, codes}
use Rattle.gn_rules.specs.declared.refusal.Refusal.{Refusal}
use Rattle.gn_numbers.specs.Names.{refusal_name}

-- the line of a refusal
abbrev pub refusal_text : Refusal → List ℕ
refusal_text refusal = codes "refused " ++ refusal_name refusal ++ codes "\n"
