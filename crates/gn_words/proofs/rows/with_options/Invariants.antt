use Rattle.std.proofs.Common.{◌≡◌, false, map, drop}
use Rattle.clap.specs.Words.{app_of}
use Rattle.clap.specs.declared.builder.command.Command.TheViews.{out-Command as fields_of}
use Rattle.gn_words.specs.Rows.{option_rule, with_rules}
use Rattle.gn_words.proofs.rows.with_options.Given as goal

abbrev pub invariant-loop-row : goal.invariant-loop-row
invariant-loop-row l = record {
  globals : (fields_of l.command).has_globals ≡ false;
  shape : with_rules (app_of l.command) (map option_rule (drop l.row-index l.rows)) ≡ with_rules (app_of l.fn.command) (map option_rule l.rows);
}
