-- What being the same means.
use Rattle.std.specs.Prelude.{◌≡◌, ◌↔◌, true}
use Rattle.gn_wire.specs.declared.key.Key.{Key}
use Rattle.gn_wire.specs.declared.kind.Guid.{Guid}
use Rattle.gn_wire.specs.Keys.{is_same_id, is_same_key, is_same_packet}
use Rattle.gn_wire.specs.Packet.{Packet}

-- two IDs, two keys and two descriptors are the same exactly where they are equal
pub record SameIsEqual : Type 0 where
  pub ids : (a b : Guid) → (is_same_id a b ≡ true) ↔ (a ≡ b)
  pub keys : (a b : Key) → (is_same_key a b ≡ true) ↔ (a ≡ b)
  pub packets : (d e : Packet) → (is_same_packet d e ≡ true) ↔ (d ≡ e)
