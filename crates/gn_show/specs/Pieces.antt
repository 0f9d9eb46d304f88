-- What is written piece by piece, where memory may run out on the way.
use Rattle.std.specs.Prelude.{◌≡◌, ◌++◌, Bool, false, List, refl}
use Rattle.std.specs.Coded.{Coded, code_by, coded×, coded_bool}

-- the pieces that are written, and whether memory ran out on the way
pub record Written (X : Type 0) : Type 0 where
  pub pieces : List X
  pub ran_out : Bool

-- what is written is stored as the pair of its fields
abbrev pub written_code : {X : Type 0} → Coded (List X) → Coded (Written X)
written_code {X} code =
    code_by (List X × Bool) (coded× code coded_bool) (λ w. (w.pieces, w.ran_out))
    (λ p. record { pieces = p.0; ran_out = p.1 }) (λ _. refl)

-- more pieces were written after those before; where memory ran out, then or before, nothing is said
pub record Puts {X : Type 0} (old new : Written X) (more : List X) : Type 0 where
  pub before : new.ran_out ≡ false → old.ran_out ≡ false
  pub pieces : new.ran_out ≡ false → new.pieces ≡ old.pieces ++ more
