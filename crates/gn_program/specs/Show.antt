-- The command `show`: what it takes, what that asks for, and what it does.
use Rattle.std.specs.Prelude.{◌∷◌, ℕ, Bool, true, false, List, [], Option, None, Some, codes}
use Rattle.clap.specs.Words.{App, Row, new_app}
use Rattle.gn_io.specs.Streams.{Streams}
use Rattle.gn_show.specs.Shown.{AppendsShown, HasShowStopped, IsShowOn}
use Rattle.gn_show.specs.declared.form.Form.TheVariants.{Json, Plain, Rows}
use Rattle.gn_show.specs.declared.form.View.TheVariants.{Stats, Steps}
use Rattle.gn_words.specs.Options.{is_set}
use Rattle.gn_words.specs.Rows.{flag_rule, with_rules}
use Rattle.gn_program.specs.Answers.{Answers, IsAnswer, is_done}
use Rattle.gn_program.specs.declared.show.Show.{Show}

-- the subcommand `show`: it takes these flags
abbrev pub show_app : App
show_app = with_rules (new_app (codes "show")) (flag_rule (codes "csv") ∷ flag_rule (codes "json") ∷ flag_rule (codes "stats") ∷ [])

-- what of a history is shown; nothing, where several flags are set
abbrev pub show_by : Bool → Bool → Bool → Option Show
show_by false false false = Some (record { view = Steps Plain })
show_by true false false = Some (record { view = Steps Rows })
show_by false true false = Some (record { view = Steps Json })
show_by false false true = Some (record { view = Stats })
show_by false true true = None
show_by true true stats = None
show_by true false true = None

-- what of a history is shown, by the flags `--csv`, `--json` and `--stats`
abbrev pub show_asked : List Row → Option Show
show_asked rows = show_by (is_set (codes "csv") rows) (is_set (codes "json") rows) (is_set (codes "stats") rows)

-- the streams are as they are left where a history is shown: what is shown of it was written; or it stopped, and what was written then is a
-- prefix of what is shown of the steps before the input's first fault
abbrev pub Shows : Show → Streams → ℕ → Type 0
Shows show s =
    Answers (IsAnswer (IsShowOn show.view) (λ done text. AppendsShown show.view text) (HasShowStopped show.view) s) is_done
