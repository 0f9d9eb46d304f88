-- A command's options as rows of a table: the rule by which clap reads each.
use Rattle.std.specs.Prelude.{◌∷◌, ℕ, List, [], Option, Some, None, true}
use Rattle.clap.specs.Words.{App, Rule, Text, new_rule, with_rule}
use Rattle.clap.specs.declared.builder.action.ArgAction.TheVariants.{Append, Set, SetTrue}
use Rattle.gn_words.specs.declared.rows.OptionRow.{OptionRow}
use Rattle.gn_words.specs.declared.rows.Takes.{Takes}
use Rattle.gn_words.specs.declared.rows.Takes.TheVariants.{Nothing, Unshown, Usual, Value, Values}

-- the same rule, with what stands behind the option
abbrev pub taking : Rule → Takes → Rule
taking rule Nothing = record rule { action = Some SetTrue }
taking rule (Value shown) = record rule { action = Some Set; value_names = 1; required = true }
taking rule (Usual shown usual) = record rule { action = Some Set; value_names = 1; defaults = usual.now ∷ [] }
taking rule (Unshown shown usual) = record rule { action = Some Set; value_names = 1; defaults = usual.now ∷ [] }
taking rule (Values shown) = record rule { action = Some Append; value_names = 1 }

-- the same rule, with the option's letter, where it has one
abbrev pub lettered : Rule → Option ℕ → Rule
lettered rule None = rule
lettered rule (Some letter) = record rule { short = Some letter }

-- the rule of an option: it is `--NAME`, with its letter and with what stands behind it
abbrev pub option_rule : OptionRow → Rule
option_rule row = taking (lettered (record (new_rule row.name.now) { long = Some row.name.now }) row.letter) row.takes

-- a command with these rules too, one after the other
abbrev pub with_rules : App → List Rule → App
with_rules app [] = app
with_rules app (rule ∷ rules) = with_rules (with_rule app rule) rules

-- the flag `--NAME`, which is set where it stands
abbrev pub flag_rule : Text → Rule
flag_rule name = record (new_rule name) { long = Some name; action = Some SetTrue }

-- the option `--NAME VALUE`, which has to be given
abbrev pub value_rule : Text → Rule
value_rule name = record (new_rule name) { long = Some name; action = Some Set; value_names = 1; required = true }

-- the option `--NAME VALUE`, which has this value where it isn't given
abbrev pub default_rule : Text → Text → Rule
default_rule name default =
    record (new_rule name) { long = Some name; action = Some Set; value_names = 1; defaults = default ∷ [] }

-- the option `--NAME VALUE`, which may be given any number of times
abbrev pub repeated_rule : Text → Rule
repeated_rule name = record (new_rule name) { long = Some name; action = Some Append; value_names = 1 }
