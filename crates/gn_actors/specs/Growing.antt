-- What a list that only grows owns, and what a beginning of it that was seen owns: ghost state alone.
use Rattle.std.specs.Prelude.{ℕ, List, map}
use base.Fraction.{full_share}
use base.Stored.{Gv, Coded}
use base.Growing.{Order, prefixes, latest, at_least}
use base.Fml.{Fml}

-- the items are kept as their ghost values
abbrev pub itself : Coded Gv
itself = record { code = λ g. g; inj = λ x y p. p }

abbrev pub logs : Order (List Gv)
logs = prefixes itself

-- the list is this now, and may grow
unfoldable pub growing_owns : {T : Type 0} → (T → Gv) → ℕ → List T → Fml
growing_owns c name items = latest logs full_share name (map c items)

-- the list has come as far as this
unfoldable pub beginning_owns : {T : Type 0} → (T → Gv) → ℕ → List T → Fml
beginning_owns c name items = at_least logs name (map c items)
