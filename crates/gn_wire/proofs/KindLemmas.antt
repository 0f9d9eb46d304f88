-- Kinds and their codes.
use Rattle.std.proofs.Common.{◌≡◌, ℕ, sym, ap, arith}
use Rattle.std.proofs.lemmas.Bool.Decides.{nat_tests}
use Rattle.gn_wire.specs.Packet.{code_of, kind_of, IsStored}

-- the kind that a code names has that code
pub code_of-kind_of : (code : ℕ) → code_of (kind_of code) ≡ code
code_of-kind_of code = grind (arith, nat_tests)

pub stored-kind_of : (code : ℕ) → IsStored (kind_of code)
stored-kind_of code = ap kind_of (sym (code_of-kind_of code))
