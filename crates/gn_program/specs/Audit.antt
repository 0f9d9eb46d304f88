-- The command `audit`: what it takes, what that asks for, and what it does.
use Rattle.std.specs.Prelude.{◌∷◌, ℕ, Bool, true, false, List, [], Option, None, Some, codes}
use Rattle.std.specs.declared.alloc.Global.{Global}
use Rattle.clap.specs.Words.{App, Row, new_app}
use Rattle.gn_capture.specs.Histories.{history_of}
use Rattle.gn_io.specs.Streams.{Streams}
use Rattle.gn_replay.specs.Audits.{AppendsCutVerdict, AppendsVerdict, HasCutStopped, HasStopped, cut_history_of}
use Rattle.gn_replay.specs.Explained.{AppendsExplained, HasExplainedStopped}
use Rattle.gn_replay.specs.Faults.{IsAuditOn}
use Rattle.gn_stream.specs.Left.{all_lines, finished_lines}
use Rattle.gn_words.specs.Options.{is_set}
use Rattle.gn_words.specs.Rows.{flag_rule, with_rules}
use Rattle.gn_program.specs.Answers.{Answers, IsAnswer, is_legal}
use Rattle.gn_program.specs.declared.audit.Audit.{Audit}
use Rattle.gn_program.specs.declared.audit.Audit.TheVariants.{Verdict, Explained, Unfinished}

-- the subcommand `audit`: it takes these flags
abbrev pub audit_app : App
audit_app = with_rules (new_app (codes "audit")) (flag_rule (codes "explain") ∷ flag_rule (codes "unfinished") ∷ [])

-- how a history is audited; nothing, where both flags are set
abbrev pub audit_by : Bool → Bool → Option Audit
audit_by false false = Some Verdict
audit_by true false = Some Explained
audit_by false true = Some Unfinished
audit_by true true = None

-- how a history is audited, by the flags `--explain` and `--unfinished`
abbrev pub audit_asked : List Row → Option Audit
audit_asked rows = audit_by (is_set (codes "explain") rows) (is_set (codes "unfinished") rows)

-- the streams are as some audit leaves them: the input was a history, of `Unfinished` one that may have been cut, and the line of its
-- verdict was written, of `Explained` with the lines that explain a wrong step; or it stopped, and what was written then is a prefix of that
abbrev pub Audits : Audit → Streams → ℕ → Type 0
Audits Verdict s = Answers (IsAnswer (IsAuditOn all_lines (history_of {A = Global}))
    (λ legality text. AppendsVerdict Global text legality) (HasStopped Global) s) is_legal
Audits Explained s = Answers (IsAnswer (IsAuditOn all_lines (history_of {A = Global}))
    (λ legality text. AppendsExplained Global text legality) (HasExplainedStopped Global) s) is_legal
Audits Unfinished s = Answers (IsAnswer (IsAuditOn finished_lines (cut_history_of {A = Global}))
    (λ legality text. AppendsCutVerdict Global text legality) (HasCutStopped Global) s) is_legal
