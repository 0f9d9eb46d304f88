-- What a command answers, and the status that stands for it.
use Rattle.std.specs.Prelude.{◌≡◌, ℕ, Bool, true, false, List, Option, IfErr, IfOk, IfSome, Result, Ok, Err, if◌then◌else◌}
use Rattle.gn_io.specs.Streams.{Streams, text_of}
use Rattle.gn_rules.specs.declared.legality.Legality.{Legality}
use Rattle.gn_rules.specs.declared.legality.Legality.TheVariants.{Legal, WrongAt}

-- any answer is good, as nothing stopped the command
abbrev pub is_done : {T : Type 0} → T → Bool
is_done answer = true

-- an audit is good of a legal history alone
abbrev pub is_legal : Legality → Bool
is_legal Legal = true
is_legal (WrongAt i) = false

-- the status of an answer: 0 where it is good; 1 where it isn't, and at a fault
abbrev pub status_of : {T E : Type 0} → (T → Bool) → Result T E → ℕ
status_of is_good (Ok answer) = if is_good answer then 0 else 1
status_of is_good (Err fault) = 1

-- there is an answer as `Is` says, and the status is that answer's
abbrev pub Answers : {T E : Type 0} → (Result T E → Type 0) → (T → Bool) → ℕ → Type 0
Answers {T} {E} Is is_good status = (answer : Result T E) × Is answer × (status ≡ status_of is_good answer)

-- what a command answers that reads a text and writes another. `On` says which answers may come on these streams; `Done`, what was written
-- where nothing stopped it, by its answer and the text that was read; `Stopped`, what was written before a fault
pub record IsAnswer {T E : Type 0} (On : Streams → Result T E → Type 0) (Done : T → List ℕ → Option (List ℕ) → Option (List ℕ) → Type 0)
    (Stopped : E → Option (List ℕ) → Option (List ℕ) → Option (List ℕ) → Type 0) (s : Streams) (answer : Result T E) : Type 0 where
  pub answered : On s answer
  pub done : IfOk answer (λ value. IfSome (text_of s) (λ text. Done value text s.sink.written s.sink_new.written))
  pub stopped : IfErr answer (λ fault. Stopped fault (text_of s) s.sink.written s.sink_new.written)
