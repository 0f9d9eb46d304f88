-- When two IDs, two keys and two descriptors are the same, and the key of a descriptor.
use Rattle.std.specs.Prelude.{ℕ, Bool, ◌==◌, ◌&&◌, List, [], ◌∷◌, ◌++◌, nat_eq}
use lib.Pointwise.{pointwise}
use Rattle.gn_wire.specs.declared.key.Key.{Key}
use Rattle.gn_wire.specs.declared.kind.Guid.{Guid}
use Rattle.gn_wire.specs.declared.kind.Kind.{Kind}
use Rattle.gn_wire.specs.declared.kind.Kind.TheVariants.{Unknown}
use Rattle.gn_wire.specs.Packet.{Packet, code_of}

-- two IDs are the same, byte by byte
abbrev pub is_same_id : Guid → Guid → Bool
is_same_id a b = pointwise nat_eq a.0 b.0

-- a kind as numbers, by which kinds are compared: its payload descriptor, after 256 if it is unknown
abbrev pub kind_numbers : Kind → List ℕ
kind_numbers (Unknown code) = 256 ∷ code ∷ []
kind_numbers kind = code_of kind ∷ []

-- two keys are the same where kind and ID are
abbrev pub is_same_key : Key → Key → Bool
is_same_key a b = pointwise nat_eq (kind_numbers a.kind ++ a.id.0) (kind_numbers b.kind ++ b.id.0)

-- what a descriptor is remembered by
abbrev pub key_of : Packet → Key
key_of d = record { kind = d.kind; id = d.id }

-- two descriptors are the same in every field
abbrev pub is_same_packet : Packet → Packet → Bool
is_same_packet d e = is_same_key (key_of d) (key_of e) && (d.ttl == e.ttl) && (d.hops == e.hops) && pointwise nat_eq d.payload e.payload
