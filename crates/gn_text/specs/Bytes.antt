-- What hex digits say.
use Rattle.std.specs.Prelude.{ℕ, Bool, false, ◌==◌, if◌then◌else◌, List, [], ◌∷◌, Option, Some, None, option_map}
use Rattle.std.specs.Result.{result_ok}
use Rattle.hex.specs.Hex.{decode_of, decode_sized}
use Rattle.gn_wire.specs.declared.kind.Guid.{Guid}

-- the dash, which says that there are no bytes
abbrev pub is_dash : List ℕ → Bool
is_dash (b ∷ []) = b == 45
is_dash _ = false

-- the bytes of one pair of hex digits or more
abbrev pub bytes_of_pairs : List ℕ → Option (List ℕ)
bytes_of_pairs [] = None
bytes_of_pairs (b ∷ bs) = result_ok (decode_of (b ∷ bs))

-- the bytes that a field says: those of its pairs of hex digits in either case, or none by a dash
abbrev pub bytes_parsed : List ℕ → Option (List ℕ)
bytes_parsed field = if is_dash field then Some [] else bytes_of_pairs field

-- an ID of these 16 bytes
abbrev pub guid_from : List ℕ → Guid
guid_from bytes = record { 0 = bytes }

-- the ID that a field says: that of 32 hex digits in either case
abbrev pub guid_of : List ℕ → Option Guid
guid_of field = option_map guid_from (result_ok (decode_sized field 16))
