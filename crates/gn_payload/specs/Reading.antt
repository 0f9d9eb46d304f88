-- How payloads are parsed, and which descriptors are sound.
use Rattle.std.specs.Prelude.{◌≡◌, ℕ, zero, suc, ◌==◌, nat_lt, if◌then◌else◌, List, [], ◌∷◌, length, drop, slice_index, Option, Some, None, option_map, option_and_then, unwrap_or, ◌-◌, Bool, true, false, ◌&&◌, nat_le, take, is_some}
use Rattle.gn_wire.specs.declared.kind.Kind.{Kind}
use Rattle.gn_wire.specs.declared.kind.Kind.TheVariants.{Ping, Pong, Push, Query, QueryHit, Unknown}
use Rattle.gn_wire.specs.Packet.{Packet}
use Rattle.gn_payload.specs.declared.checked.Verdict.{Verdict}
use Rattle.gn_payload.specs.declared.checked.Verdict.TheVariants.{Sound, UnknownKind, Malformed}
use Rattle.gn_payload.specs.Fields.{QueryFields, ResultFields, HitFields, number_at, bytes_at, push_servent, hit_servent, hit_middle}
use Rattle.gn_payload.specs.Grammar.{IsPong, IsPush, IsQuery, IsHit}
use Rattle.gn_payload.specs.declared.pong.Pong as pong
use Rattle.gn_payload.specs.declared.push.Push as push

-- the next step of a reading, where there is a value
infixl 10 ◌>>=◌
abbrev pub ◌>>=◌ : {A B : Type 0} → Option A → (A → Option B) → Option B
o >>= f = option_and_then f o

-- the text before the first zero byte, and what follows that byte
abbrev pub text_reading : List ℕ → Option (List ℕ × List ℕ)
text_reading [] = None
text_reading (b ∷ bytes) = if b == 0 then Some ([], bytes) else option_map (λ x. (b ∷ x.0, x.1)) (text_reading bytes)

-- the reading of a Pong
abbrev pub pong_reading : List ℕ → Option pong.Pong
pong_reading bytes =
    if length bytes == 14 then Some (record { port = number_at 2 0 bytes; ip = bytes_at 4 2 bytes; files = number_at 4 6 bytes; kbytes = number_at 4 10 bytes })
    else None

-- the reading of a Push
abbrev pub push_reading : List ℕ → Option push.Push
push_reading bytes =
    if length bytes == 26 then Some (record { servent = push_servent bytes; file = number_at 4 16 bytes; ip = bytes_at 4 20 bytes; port = number_at 2 24 bytes })
    else None

-- the reading of a Query
abbrev pub query_reading : List ℕ → Option QueryFields
query_reading bytes = option_map (λ x. record { speed = number_at 2 0 bytes; text = x.0; tail = x.1 }) (text_reading (drop 2 bytes))

-- the first result, and what follows it
abbrev pub result_reading : List ℕ → Option (ResultFields × List ℕ)
result_reading bytes = do
  name ← text_reading (drop 8 bytes)
  extra ← text_reading name.1
  Some (record { file = number_at 4 0 bytes; size = number_at 4 4 bytes; name = name.0; extra = extra.0 }, extra.1)

-- so many results, and what follows them
abbrev pub results_reading : ℕ → List ℕ → Option (List ResultFields × List ℕ)
results_reading zero bytes = Some ([], bytes)
results_reading (suc n) bytes = do
  first ← result_reading bytes
  others ← results_reading n first.1
  Some (first.0 ∷ others.0, others.1)

-- the reading of a Query Hit
abbrev pub hit_reading : List ℕ → Option HitFields
hit_reading bytes =
    if nat_lt (length bytes) 27 then None
    else option_map (λ x. record { port = number_at 2 1 bytes; ip = bytes_at 4 3 bytes; speed = number_at 4 7 bytes; results = x.0; trailer = x.1; servent = hit_servent bytes }) (results_reading (slice_index bytes 0) (hit_middle bytes))

-- what a payload says: nothing, or the fields of its kind
pub data Read : Type 0 where
  Empty : Read
  OfPong : pong.Pong → Read
  OfPush : push.Push → Read
  OfQuery : QueryFields → Read
  OfHit : HitFields → Read

-- the reading of a payload of this kind; a Ping has no bytes, and of an unknown kind none is read
abbrev pub reading : Kind → List ℕ → Option Read
reading Ping bytes = if length bytes == 0 then Some Empty else None
reading Pong bytes = option_map OfPong (pong_reading bytes)
reading Push bytes = option_map OfPush (push_reading bytes)
reading Query bytes = option_map OfQuery (query_reading bytes)
reading QueryHit bytes = option_map OfHit (hit_reading bytes)
reading (Unknown code) bytes = None

-- what is said is the grammar's reading of a payload of this kind
abbrev pub IsReading : Kind → List ℕ → Read → Type 0
IsReading Ping bytes Empty = bytes ≡ []
IsReading Pong bytes (OfPong p) = IsPong bytes p
IsReading Push bytes (OfPush p) = IsPush bytes p
IsReading Query bytes (OfQuery q) = IsQuery bytes q
IsReading QueryHit bytes (OfHit h) = IsHit bytes h
IsReading kind bytes read = ⊥

-- the results that so many are, where the bytes begin with them
abbrev pub results_in : ℕ → List ℕ → List ResultFields
results_in n bytes = (unwrap_or (results_reading n bytes) ([], [])).0

-- the bytes are so many results, and nothing else
abbrev pub AreJust : ℕ → List ℕ → Type 0
AreJust n bytes = results_reading n bytes ≡ Some (results_in n bytes, [])

-- a payload that the grammar reads; of an unknown kind none is
abbrev pub HasReading : Kind → List ℕ → Type 0
HasReading Ping bytes = bytes ≡ []
HasReading Pong bytes = (p : pong.Pong) × IsPong bytes p
HasReading Push bytes = (p : push.Push) × IsPush bytes p
HasReading Query bytes = (q : QueryFields) × IsQuery bytes q
HasReading QueryHit bytes = (h : HitFields) × IsHit bytes h
HasReading (Unknown code) bytes = ⊥

-- whether a payload of this kind has a reading: for a Ping, Pong or Push its length alone decides, and none of an unknown kind has
-- one
abbrev pub has_reading : Kind → List ℕ → Bool
has_reading Ping bytes = length bytes == 0
has_reading Pong bytes = length bytes == 14
has_reading Push bytes = length bytes == 26
-- two bytes, a text, a zero byte, and maybe more bytes
has_reading Query bytes = is_some (text_reading (drop 2 bytes))
-- 11 bytes, as many results as the first of these bytes says, maybe more bytes, and 16 bytes
has_reading QueryHit bytes =
    nat_le 27 (length bytes) && is_some (results_reading (slice_index bytes 0) (take (length bytes - 27) (drop 11 bytes)))
has_reading (Unknown code) bytes = false

-- a kind that version 0.4 names
abbrev pub is_known : Kind → Bool
is_known Ping = true
is_known Pong = true
is_known Push = true
is_known Query = true
is_known QueryHit = true
is_known (Unknown code) = false

-- what a check says of a descriptor
abbrev pub verdict_of : Packet → Verdict
verdict_of d = if is_known d.kind then (if has_reading d.kind d.payload then Sound else Malformed) else UnknownKind

-- a sound descriptor: its kind is known, and its payload has a reading
abbrev pub is_sound : Packet → Bool
is_sound d = has_reading d.kind d.payload
