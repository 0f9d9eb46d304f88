-- The packets that a router makes of a descriptor.
use Rattle.gn_wire.specs.Packet.{Packet}
use Rattle.gn_rules.specs.Sending.{own_pong}
use Rattle.gn_decide.specs.declared.made.Made.{Made}
use Rattle.gn_decide.specs.declared.made.Made.TheVariants.{Itself, Forward, OwnPong}

-- the packet that is made
abbrev pub made_packet : {A : Type 0} → Made A → Packet
made_packet (Itself d) = d.now
made_packet (Forward forward) = forward
made_packet (OwnPong own d) = own_pong own.now d.now
