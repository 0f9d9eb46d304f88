-- How a link stands in its slot.
use Rattle.std.specs.Prelude.{ℕ}
use Rattle.gn_shake.specs.declared.role.Role.{Role}
use Rattle.gn_start.specs.declared.incoming.NewLink.{NewLink}

-- how a link stands in a slot: its number, those of its two actors, what came, and how the writer takes it to begin
pub record Seat (Rd W : Type 0) : Type 0 where
  pub link : ℕ
  pub reader : ℕ
  pub writer : ℕ
  pub came : NewLink Rd W
  pub other : Role
