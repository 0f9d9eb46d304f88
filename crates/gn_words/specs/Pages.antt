-- A command's page: the rules by which clap reads its options.
use Rattle.std.specs.Prelude.{◌∷◌, List, [], map}
use Rattle.clap.specs.Words.{App, new_app}
use Rattle.gn_words.specs.Rows.{option_rule, with_rules}
use Rattle.gn_words.specs.declared.page.Group.{Group}
use Rattle.gn_words.specs.declared.page.Page.{Page}

-- a command with the options of these groups too, one group after the other
abbrev pub with_groups : App → List Group → App
with_groups app [] = app
with_groups app (group ∷ groups) = with_groups (with_rules app (map option_rule group.rows.now)) groups

-- the command of a page
abbrev pub page_app : Page → App
page_app page = with_groups (new_app page.name.now) page.groups.now
