-- The command `load`: what it takes, what that asks for, and what it does.
use Rattle.std.specs.Prelude.{◌∷◌, ◌≤◌, ℕ, List, [], Option, Some, codes, length, IfErr, IfSome, IsOk, OnOk, Result}
use Rattle.std.specs.declared.alloc.Global.{Global}
use Rattle.clap.specs.Words.{App, Row, Rule, new_app}
use Rattle.gn_io.specs.Input.{input_limit}
use Rattle.gn_io.specs.Streams.{NoneFailed, Streams, text_of}
use Rattle.gn_load.specs.Faults.{IsLoadFault}
use Rattle.gn_load.specs.JournalledLoads.{HasStoppedAt}
use Rattle.gn_load.specs.Loads.{AppendsLoad, load_of}
use Rattle.gn_load.specs.declared.fault.LoadFault.{LoadFault}
use Rattle.gn_numbers.specs.Numbers.{◌>>=◌}
use Rattle.gn_rules.specs.Limits.{most_workers}
use Rattle.gn_words.specs.Options.{is_set, number_asked}
use Rattle.gn_words.specs.Rows.{flag_rule, value_rule, with_rules}
use Rattle.gn_program.specs.Answers.{Answers, IsAnswer, is_done}
use Rattle.gn_program.specs.declared.load.Load.{Load}

-- the option `-w V`, or `--workers V`, which has to be given
abbrev pub workers_rule : Rule
workers_rule = record (value_rule (codes "workers")) { short = Some 119 }

-- the subcommand `load`: it takes the number of workers, and a flag
abbrev pub load_app : App
load_app = with_rules (new_app (codes "load")) (workers_rule ∷ flag_rule (codes "progress") ∷ [])

-- what a load asks for, where the number of its workers is within its limits
abbrev pub load_asked : List Row → Option Load
load_asked rows = do
  workers ← number_asked (codes "workers") 1 most_workers rows
  Some (record { workers = workers; says_progress = is_set (codes "progress") rows })

-- how many packets a load writes to a link at once at most
abbrev pub load_batch : ℕ
load_batch = 64

-- what a load with so many workers answers on its streams: at Ok the input was a capture of lines that a load takes, no longer than it may
-- be, and no read and no write failed; an Err is a fault that the streams confirm
pub record IsLoadOn (workers : ℕ) (s : Streams) (answer : Result (Unit {0}) LoadFault) : Type 0 where
  pub short : OnOk answer (IfSome (text_of s) (λ text. length text ≤ input_limit))
  pub valid : OnOk answer (IfSome (text_of s) (λ text. IsOk (load_of Global text)))
  pub unfailed : OnOk answer (NoneFailed s)
  pub fault : IfErr answer (λ fault. IsLoadFault workers fault (load_of Global) s)

-- the streams are as some load leaves them: the history of a run with so many workers over the links of the input's lines was written; or it
-- stopped, and what was written then is a prefix of the text of a history that is legal by the input's configuration
abbrev pub Loads : Load → Streams → ℕ → Type 0
Loads load s = Answers (IsAnswer (IsLoadOn load.workers)
    (λ done text. AppendsLoad Global load_batch load.workers text) HasStoppedAt s) is_done
