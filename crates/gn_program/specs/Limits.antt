-- How long a serve goes on and waits, as its options say it.
use Rattle.std.specs.Prelude.{◌≡◌, ◌*◌, ◌||◌, ◌&&◌, ℕ, Bool, false, true, not, Option, None, Some, is_some, option_map}
use Rattle.std.specs.Duration.{as_nanos}
use Rattle.std.specs.declared.time.Duration.{Duration}
use Rattle.gn_service.specs.Stopping.{Stopping}
use Rattle.gn_program.specs.Serve.{AskedServe}
use Rattle.gn_words.specs.declared.retrying.Retry.{Retry}
use Rattle.gn_words.specs.declared.retrying.Retry.TheVariants.{Never, For, Always}

-- a time limit is one of so many seconds, where there is one
abbrev pub IsLimit : Option ℕ → Option Duration → Type 0
IsLimit seconds limit = option_map as_nanos limit ≡ option_map (λ s. s * 1_000_000_000) seconds

-- the seconds for which a peer that doesn't listen is called again, where they are limited
abbrev pub seconds_of : Retry → Option ℕ
seconds_of Never = None
seconds_of (For seconds) = Some seconds
seconds_of Always = None

-- whether so a peer is called for as long as the router runs
abbrev pub is_always : Retry → Bool
is_always Never = false
is_always (For seconds) = false
is_always Always = true

-- whether the peers of a serve are
abbrev pub calls_again : AskedServe → Bool
calls_again serving = is_always serving.retry

-- whether a serve goes on with the history that standard input gives: one of any number of callers does, where it is asked for
abbrev pub goes_on : AskedServe → Bool
goes_on serving = serving.resumes && not (is_some serving.accept)

-- whether anything but its peers stops a serve: its time, its steps, or the end of standard input
abbrev pub may_stop : AskedServe → Bool
may_stop serving = is_some serving.seconds || (serving.early || serving.until_eof)

-- by what a serve is stopped before its peers end it, beside the end of standard input: by its time, which `--for` limits, and
-- where `--stop-early` says so by its steps
pub record IsStopOf (serving : AskedServe) (stop : Stopping) : Type 0 where
  pub limited : IsLimit serving.seconds stop.limit
  pub early : stop.is_early ≡ serving.early
