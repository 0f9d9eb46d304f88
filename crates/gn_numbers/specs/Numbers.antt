-- What digits say.
use Rattle.std.specs.Prelude.{◌^◌, ℕ, Bool, ◌&&◌, nat_le, nat_lt, if◌then◌else◌, List, length, Option, Some, None}
use Rattle.std.specs.List.{list_all}
use Rattle.std.specs.Char.{is_ascii_digit}
use Rattle.std.specs.Option.{option_and_then}
use Rattle.std.specs.Str.Parse.{digits_value}

-- the next step, where there is a value
infixl 10 ◌>>=◌
abbrev pub ◌>>=◌ : {X Y : Type 0} → Option X → (X → Option Y) → Option Y
o >>= f = option_and_then f o

-- one to ten decimal digits
abbrev pub is_numeral : List ℕ → Bool
is_numeral field = nat_le 1 (length field) && nat_le (length field) 10 && list_all is_ascii_digit field

-- the number that a field says: what one to ten digits say, where a u32 holds it
abbrev pub number_of : List ℕ → Option ℕ
number_of field = if is_numeral field && nat_lt (digits_value 10 field) (2 ^ 32) then Some (digits_value 10 field) else None

-- a number, where it is below the limit
abbrev pub below : ℕ → Option ℕ → Option ℕ
below limit None = None
below limit (Some n) = if nat_lt n limit then Some n else None

-- the number that a field says, where it is below the limit
abbrev pub number_below : ℕ → List ℕ → Option ℕ
number_below limit field = below limit (number_of field)
