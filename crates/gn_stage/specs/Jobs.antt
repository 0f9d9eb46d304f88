-- A job as one plain value.
use Rattle.std.specs.Prelude.{ℕ}
use Rattle.gn_wire.specs.Packet.{Packet}

-- a descriptor that was admitted, with its ticket
pub record Queued : Type 0 where
  pub ticket : ℕ
  pub descriptor : Packet
