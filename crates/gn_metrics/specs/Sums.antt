-- Sums of counts.
use Rattle.std.specs.Prelude.{ℕ, ◌+◌, ◌-◌, ◌^◌, List, get_or, min, set, sum}

-- the sum of some counts, at most the last u64
abbrev pub sum_up : List ℕ → ℕ
sum_up counts = min (sum counts) (2 ^ 64 - 1)

-- counts with one more at a place, at most the last u32
abbrev pub counted : ℕ → List ℕ → List ℕ
counted place counts = set counts place (min (get_or counts place 0 + 1) (2 ^ 32 - 1))
