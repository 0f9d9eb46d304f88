-- A descriptor as one plain value: its kind, the lengths that its payload may have, and what is passed on of it.
use Rattle.std.specs.Prelude.{◌≡◌, ℕ, ◌==◌, if◌then◌else◌, List, ◌<◌, nat_le, length, min, Option, Some, None, ◌+◌, ◌-◌, Bool, ◌||◌}
use Rattle.gn_wire.specs.declared.kind.Kind.{Kind}
use Rattle.gn_wire.specs.declared.kind.Kind.TheVariants.{Ping, Pong, Push, Query, QueryHit, Unknown}
use Rattle.gn_wire.specs.declared.kind.Guid.{Guid}
use Rattle.gn_wire.specs.declared.header.FrameFault.{FrameFault}
use Rattle.gn_wire.specs.declared.header.FrameFault.TheVariants.{FixedLength, TooLong}

-- the byte of a kind
abbrev pub code_of : Kind → ℕ
code_of Ping = 0x00
code_of Pong = 0x01
code_of Push = 0x40
code_of Query = 0x80
code_of QueryHit = 0x81
code_of (Unknown code) = code

-- the kind of a byte
abbrev pub kind_of : ℕ → Kind
kind_of code =
    if code == 0x00 then Ping else if code == 0x01 then Pong else if code == 0x40 then Push
    else if code == 0x80 then Query else if code == 0x81 then QueryHit else Unknown code

-- a kind as descriptors store it: the one that its payload descriptor names
abbrev pub IsStored : Kind → Type 0
IsStored kind = kind ≡ kind_of (code_of kind)

-- a descriptor, or a packet, as a value: its header without the length, and its payload
pub record Packet : Type 0 where
  pub id : Guid
  pub kind : Kind
  pub ttl : ℕ
  pub hops : ℕ
  pub payload : List ℕ

-- the fault of a payload length that this kind can't have: a Ping, a Pong and a Push have one length each, the others any up to
-- 65,536
abbrev pub fault_of : Kind → ℕ → Option FrameFault
fault_of Ping n = if n == 0 then None else Some (FixedLength Ping n)
fault_of Pong n = if n == 14 then None else Some (FixedLength Pong n)
fault_of Push n = if n == 26 then None else Some (FixedLength Push n)
fault_of Query n = if nat_le n 65536 then None else Some (TooLong n)
fault_of QueryHit n = if nat_le n 65536 then None else Some (TooLong n)
fault_of (Unknown code) n = if nat_le n 65536 then None else Some (TooLong n)

-- the fault of a descriptor's length; one that no u32 holds is given as the last u32
abbrev pub packet_fault : Packet → Option FrameFault
packet_fault d = fault_of d.kind (min (length d.payload) 4294967295)

-- what every descriptor keeps: a valid length, the kind that its code names, an ID of 16 bytes, and TTL and Hops that
-- fit a byte
pub record IsDescriptor (d : Packet) : Type 0 where
  pub valid : fault_of d.kind (length d.payload) ≡ None
  pub stored : IsStored d.kind
  pub id_size : length d.id.0 ≡ 16
  pub ttl_fits : d.ttl < 256
  pub hops_fits : d.hops < 256

-- what is left of a descriptor's life: its TTL, or the limit minus its Hops if that is smaller; a limit of 0 is no limit
abbrev pub life_left : ℕ → Packet → ℕ
life_left life d = if life == 0 then d.ttl else min d.ttl (life - d.hops)

-- expired: at most 1 is left of its life, or it came with Hops 255; it isn't forwarded
abbrev pub is_expired : ℕ → Packet → Bool
is_expired life d = nat_le (life_left life d) 1 || d.hops == 255

-- the forward: TTL one less than what is left of its life, Hops one more, all else the same
abbrev pub forward_of : ℕ → Packet → Packet
forward_of life d = record d { ttl = life_left life d - 1; hops = d.hops + 1 }
