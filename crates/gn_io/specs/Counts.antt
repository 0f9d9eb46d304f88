-- What sources and sinks count.
use Rattle.std.specs.Prelude.{◌+◌, ◌-◌, ◌^◌, ◌≤◌, ◌<◌, ◌⊎◌, ℕ, Bool, if◌then◌else◌, min, List, length, Result, Ok, Err, ◌==◌, ◌&&◌, not, false}

-- the last value of a count
abbrev pub last_count : ℕ
last_count = 2 ^ 64 - 1

-- a count after n more; at its last value it stays
abbrev pub count_more : ℕ → ℕ → ℕ
count_more n count = min (count + n) last_count

-- a count after what may have happened
abbrev pub counted : Bool → ℕ → ℕ
counted happened count = if happened then count_more 1 count else count

-- the count of bytes given, after a read
abbrev pub count_given : {E : Type 0} → Result ℕ E → ℕ → ℕ
count_given (Ok n) count = count_more n count
count_given (Err fault) count = count

-- a write took none of a piece that isn't empty
abbrev pub took_none : {E : Type 0} → Result ℕ E → List ℕ → Bool
took_none (Ok n) piece = (n == 0) && not (length piece == 0)
took_none (Err fault) piece = false

-- a count says that there were more than n: it has risen by more, or is at its last value
abbrev pub RisesBeyond : ℕ → ℕ → ℕ → Type 0
RisesBeyond n old new = (old + n < new) ⊎ (last_count ≤ new)

-- a count says that it happened
abbrev pub Rises : ℕ → ℕ → Type 0
Rises old new = RisesBeyond 0 old new
