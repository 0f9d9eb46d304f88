-- What dotted decimals say.
use Rattle.std.specs.Prelude.{ℕ, ◌==◌, List, [], ◌∷◌, ◌++◌, slice_index, codes, decimal, Option, Some, None}
use Rattle.std.specs.List.{slice_split}
use Rattle.gn_numbers.specs.Numbers.{number_below, ◌>>=◌}

-- the address of four numbers up to 255
abbrev pub ip_of_parts : List (List ℕ) → Option (List ℕ)
ip_of_parts (a ∷ b ∷ c ∷ d ∷ []) = do
  first ← number_below 256 a
  second ← number_below 256 b
  third ← number_below 256 c
  fourth ← number_below 256 d
  Some (first ∷ second ∷ third ∷ fourth ∷ [])
ip_of_parts _ = None

-- the address that a field says: four such numbers joined by dots
abbrev pub ip_of : List ℕ → Option (List ℕ)
ip_of field = ip_of_parts (slice_split (λ b. b == 46) field)

-- an address as it is written
abbrev pub ip_text : List ℕ → List ℕ
ip_text ip =
    decimal (slice_index ip 0) ++ codes "." ++ decimal (slice_index ip 1) ++ codes "." ++ decimal (slice_index ip 2)
    ++ codes "." ++ decimal (slice_index ip 3)
