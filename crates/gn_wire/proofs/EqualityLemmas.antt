-- IDs, keys and descriptors that are the same are equal.
use Rattle.std.proofs.Common.{◌≡◌, ℕ, ◌==◌, Bool, true, false, ◌&&◌, if◌then◌else◌, nat_eq, List, [], ◌∷◌, ◌++◌, refl, sym, ap, ◌∙◌, subst}
use lib.Pointwise.{pointwise, bytes_decides}
use Rattle.std.proofs.lemmas.Bool.{eq-eqb}
use Rattle.std.proofs.lemmas.Map.Views.{exact_unsigned_eq}
use Rattle.gn_wire.specs.declared.key.Key.{Key}
use Rattle.gn_wire.specs.declared.kind.Guid.{Guid}
use Rattle.gn_wire.specs.declared.kind.Kind.{Kind}
use Rattle.gn_wire.specs.declared.kind.Kind.TheVariants.{Unknown}
use Rattle.gn_wire.specs.Equality.{SameIsEqual}
use Rattle.gn_wire.specs.Keys.{is_same_key, is_same_packet, key_of, kind_numbers}
use Rattle.gn_wire.specs.Packet.{Packet, kind_of}

both : (a b : Bool) → (a && b) ≡ true → (a ≡ true) × (b ≡ true)
both true b h = (refl, h)
both false b h = cc

-- a kind and what follows it, read from their numbers
abbrev unknown_from : List ℕ → Kind × List ℕ
unknown_from [] = (Unknown 0, [])
unknown_from (code ∷ rest) = (Unknown code, rest)

abbrev kind_from : List ℕ → Kind × List ℕ
kind_from [] = (Unknown 0, [])
kind_from (n ∷ rest) = if n == 256 then unknown_from rest else (kind_of n, rest)

kind_read : (k : Kind) (rest : List ℕ) → kind_from (kind_numbers k ++ rest) ≡ (k, rest)
kind_read (Unknown code) rest = refl
kind_read k rest = refl

same_numbers : (a b : Key) → is_same_key a b ≡ true → ◌≡◌ {A = Kind × List ℕ} (a.kind, a.id.0) (b.kind, b.id.0)
same_numbers a b h = sym (kind_read a.kind a.id.0) ∙ ap kind_from ((bytes_decides (kind_numbers a.kind ++ a.id.0) (kind_numbers b.kind ++ b.id.0)).0 h) ∙ kind_read b.kind b.id.0

abbrev id_of : List ℕ → Guid
id_of bytes = record { 0 = bytes }

abbrev key_from : Kind × List ℕ → Key
key_from numbers = record { kind = numbers.0; id = id_of numbers.1 }

abbrev packet_of : Kind × List ℕ → ℕ → ℕ → List ℕ → Packet
packet_of key ttl hops payload = record { id = id_of key.1; kind = key.0; ttl = ttl; hops = hops; payload = payload }

packet_from : (d e : Packet) → ◌≡◌ {A = Kind × List ℕ} (d.kind, d.id.0) (e.kind, e.id.0) → d.ttl ≡ e.ttl → d.hops ≡ e.hops → d.payload ≡ e.payload → d ≡ e
packet_from d e key ttl hops payload =
    ap (λ k. packet_of k d.ttl d.hops d.payload) key
    ∙ ap (λ n. packet_of (e.kind, e.id.0) n d.hops d.payload) ttl
    ∙ ap (λ n. packet_of (e.kind, e.id.0) e.ttl n d.payload) hops
    ∙ ap (packet_of (e.kind, e.id.0) e.ttl e.hops) payload

pub same_packet : (d e : Packet) → is_same_packet d e ≡ true → d ≡ e
same_packet d e h =
    let payload = both (is_same_key (key_of d) (key_of e) && (d.ttl == e.ttl) && (d.hops == e.hops)) (pointwise nat_eq d.payload e.payload) h in
    let hops = both (is_same_key (key_of d) (key_of e) && (d.ttl == e.ttl)) (d.hops == e.hops) payload.0 in
    let ttl = both (is_same_key (key_of d) (key_of e)) (d.ttl == e.ttl) hops.0 in
    packet_from d e (same_numbers (key_of d) (key_of e) ttl.0) (exact_unsigned_eq d.ttl e.ttl ttl.1) (exact_unsigned_eq d.hops e.hops hops.1) ((bytes_decides d.payload e.payload).0 payload.1)

key_is_itself : (a : Key) → is_same_key a a ≡ true
key_is_itself a = (bytes_decides (kind_numbers a.kind ++ a.id.0) (kind_numbers a.kind ++ a.id.0)).1 refl

pub packet_is_itself : (d : Packet) → is_same_packet d d ≡ true
packet_is_itself d =
    rw (key_is_itself (key_of d), eq-eqb d.ttl d.ttl refl, eq-eqb d.hops d.hops refl, (bytes_decides d.payload d.payload).1 refl) refl

pub same_is_equal : SameIsEqual
same_is_equal = record {
  ids = λ a b. (λ h. ap id_of ((bytes_decides a.0 b.0).0 h), λ h. (bytes_decides a.0 b.0).1 (ap (λ (g : Guid). g.0) h));
  keys = λ a b. (λ h. ap key_from (same_numbers a b h), λ h. subst (λ (k : Key). is_same_key a k ≡ true) h (key_is_itself a));
  packets = λ d e. (same_packet d e, λ h. subst (λ (k : Packet). is_same_packet d k ≡ true) h (packet_is_itself d));
}
