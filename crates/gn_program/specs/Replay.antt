-- The command `replay`: what it takes, what that asks for, and what it does.
use Rattle.std.specs.Prelude.{◌∷◌, ℕ, List, [], Option, Some, codes, if◌then◌else◌}
use Rattle.std.specs.declared.alloc.Global.{Global}
use Rattle.clap.specs.Words.{App, Row, new_app}
use Rattle.gn_capture.specs.Captures.{capture_of}
use Rattle.gn_io.specs.Streams.{Streams}
use Rattle.gn_replay.specs.Faults.{IsAnswerOn}
use Rattle.gn_replay.specs.ReplayHistory.{AppendsHistory, HasHistoryStopped}
use Rattle.gn_replay.specs.Replays.{AppendsReplay, HasStopped, IsCounted}
use Rattle.gn_words.specs.Options.{is_set}
use Rattle.gn_words.specs.Rows.{flag_rule, with_rules}
use Rattle.gn_program.specs.Answers.{Answers, IsAnswer, is_done}
use Rattle.gn_program.specs.declared.replay.Replay.{Replay}
use Rattle.gn_program.specs.declared.replay.Replay.TheVariants.{Lines, History}

-- the subcommand `replay`: it takes this flag
abbrev pub replay_app : App
replay_app = with_rules (new_app (codes "replay")) (flag_rule (codes "history") ∷ [])

-- what a replay asks for, by the flag `--history`
abbrev pub replay_asked : List Row → Option Replay
replay_asked rows = if is_set (codes "history") rows then Some History else Some Lines

-- the streams are as some replay leaves them: the input was a capture, its replay text was written, or the history of its router, and its
-- steps and refusals counted; or it stopped, and what was written then is a prefix of that text
abbrev pub Replays : Replay → Streams → ℕ → Type 0
Replays Lines s = Answers (IsAnswer (IsAnswerOn (capture_of {A = Global}))
    (λ exit text old new. AppendsReplay Global text old new × IsCounted Global text exit) (HasStopped Global) s) is_done
Replays History s = Answers (IsAnswer (IsAnswerOn (capture_of {A = Global}))
    (λ exit text old new. AppendsHistory Global text old new × IsCounted Global text exit) (HasHistoryStopped Global) s) is_done
