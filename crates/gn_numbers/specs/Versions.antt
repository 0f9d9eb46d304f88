-- Which numbers a configuration's line has in each version of the texts.
use Rattle.std.specs.Prelude.{ℕ, ◌==◌, if◌then◌else◌, List, [], ◌∷◌, ◌++◌, codes, Option, Some, None, decimal}
use Rattle.gn_rules.specs.declared.limits.Numbers.{Numbers}
use Rattle.gn_numbers.specs.declared.version.Later.{Later}
use Rattle.gn_numbers.specs.declared.version.Version.{Version}
use Rattle.gn_numbers.specs.declared.version.Version.TheVariants.{First, Second, Third}
use Rattle.gn_numbers.specs.Numbers.{number_below, number_of, ◌>>=◌}

-- the least version that can say these numbers
abbrev pub version_for : Numbers → Version
version_for n = if n.crowd == 0 then if n.life == 0 then First else Second else Third

-- what the fields after the sixth number say in this version; a number that the version doesn't have is 0
abbrev pub later_parsed : Version → List (List ℕ) → Option Later
later_parsed First [] = Some (record { life = 0; crowd = 0 })
later_parsed Second (life ∷ []) = do
  life ← number_below 256 life
  Some (record { life = life; crowd = 0 })
later_parsed Third (life ∷ crowd ∷ []) = do
  life ← number_below 256 life
  crowd ← number_of crowd
  Some (record { life = life; crowd = crowd })
later_parsed version fields = None

-- the text of those fields
abbrev pub later_text : Version → Numbers → List ℕ
later_text First n = []
later_text Second n = codes " " ++ decimal n.life
later_text Third n = codes " " ++ decimal n.life ++ codes " " ++ decimal n.crowd
