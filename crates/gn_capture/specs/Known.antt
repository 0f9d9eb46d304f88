-- A packet that was read already, beside the hex digits that say it.
use Rattle.std.specs.Prelude.{◌≡◌, ◌-◌, ℕ, List, length, slice_get, Option, Some, IfSome}
use Rattle.std.proofs.Common.{Bor}
use Rattle.gn_wire.specs.Packet.{Packet}
use Rattle.gn_rules.specs.declared.sends.Sending.{Sending}
use Rattle.gn_capture.specs.Packets.{packet_parsed}

-- the hex digits say the packet, where there is one
abbrev pub IsKnown : Option (Bor (List ℕ) × Bor Packet) → Type 0
IsKnown known = IfSome known (λ b. packet_parsed b.0.now ≡ Some b.1.now)

-- hex digits say the packet of the last send, where there is one
abbrev pub SaysLast : {A : Type 0} → List ℕ → List (Sending A) → Type 0
SaysLast hex sends = IfSome (slice_get sends (length sends - 1)) (λ s. packet_parsed hex ≡ Some s.packet)
