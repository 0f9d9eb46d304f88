-- The texts of what lines are put together from.
use Rattle.std.specs.Prelude.{ℕ, List, [], ◌∷◌, ◌++◌, decimal}
use Rattle.hex.specs.Hex.{encode_lower}
use Rattle.gn_numbers.specs.declared.version.Version.{Version}
use Rattle.gn_numbers.specs.declared.version.Version.TheVariants.{First, Second, Third}
use Rattle.gn_text.specs.declared.part.Part.{Part}
use Rattle.gn_text.specs.declared.part.Part.TheVariants.{Word, Number, Hex}

-- a part: letters as they stand, a number in decimal digits, or bytes in hex digits of lower case
abbrev pub part_text : Part → List ℕ
part_text (Word letters) = letters.now
part_text (Number n) = decimal n
part_text (Hex bytes) = encode_lower bytes.now

-- some parts, in order
abbrev pub parts_text : List Part → List ℕ
parts_text [] = []
parts_text (part ∷ []) = part_text part
parts_text (part ∷ next ∷ more) = part_text part ++ parts_text (next ∷ more)

-- how many parts of the line `config` a version has: a word or a space before each of six numbers, and of those that later versions have
abbrev pub config_parts : Version → ℕ
config_parts First = 12
config_parts Second = 14
config_parts Third = 16
