-- The sends of one packet to some connections.
use Rattle.std.specs.Prelude.{ℕ, ◌==◌, List, filter, map, not}
use Rattle.gn_wire.specs.Packet.{Packet}
use Rattle.gn_rules.specs.declared.config.Config.{Config}
use Rattle.gn_rules.specs.declared.receipt.Step.{Step}
use Rattle.gn_rules.specs.declared.sends.Sending.{Sending}
use Rattle.gn_rules.specs.Sending.{send}

-- a send of the packet to each of these connections except one
abbrev pub to_others : {A : Type 0} → Config → List (Step A) → ℕ → Packet → List ℕ → List (Sending A)
to_others s past except p cs = map (send s past p) (filter (λ d. not (d == except)) cs)
