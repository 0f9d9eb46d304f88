use Rattle.std.proofs.Common.{◌≡◌, false, drop}
use Rattle.clap.specs.Words.{app_of}
use Rattle.clap.specs.declared.builder.command.Command.TheViews.{out-Command as fields_of}
use Rattle.gn_words.specs.Pages.{with_groups}
use Rattle.gn_words.proofs.page.with_groups.Given as goal

abbrev pub invariant-loop-group : goal.invariant-loop-group
invariant-loop-group l = record {
  globals : (fields_of l.command).has_globals ≡ false;
  shape : with_groups (app_of l.command) (drop l.group-index l.groups) ≡ with_groups (app_of l.fn.command) l.groups;
}
