-- The bytes of payloads.
use Rattle.std.specs.Prelude.{ℕ, ◌<◌, ◌^◌, List, [], ◌∷◌, ◌++◌, length}
use Rattle.std.specs.List.{flat_map}
use Rattle.byteorder.specs.Endian.{little_bytes}
use Rattle.gn_payload.specs.declared.push.Push.{Push}
use Rattle.gn_payload.specs.Fields.{QueryFields, ResultFields, HitFields}

-- the 14 bytes of a Pong
abbrev pub pong_bytes : (port : ℕ) → (ip : List ℕ) → (files kbytes : ℕ) → List ℕ
pong_bytes port ip files kbytes = little_bytes 2 port ++ ip ++ little_bytes 4 files ++ little_bytes 4 kbytes

-- the 26 bytes of a Push
abbrev pub push_bytes : Push → List ℕ
push_bytes p = p.servent.0 ++ little_bytes 4 p.file ++ p.ip ++ little_bytes 2 p.port

-- a text and the zero byte that ends it
abbrev pub ended : List ℕ → List ℕ
ended text = text ++ 0 ∷ []

-- the bytes of a Query
abbrev pub query_bytes : QueryFields → List ℕ
query_bytes q = little_bytes 2 q.speed ++ ended q.text ++ q.tail

-- the bytes of a result
abbrev pub result_bytes : ResultFields → List ℕ
result_bytes r = little_bytes 4 r.file ++ little_bytes 4 r.size ++ ended r.name ++ ended r.extra

-- the bytes of results, one after another
abbrev pub results_bytes : List ResultFields → List ℕ
results_bytes results = flat_map result_bytes results

-- the bytes of a Query Hit
abbrev pub hit_bytes : HitFields → List ℕ
hit_bytes h =
    length h.results ∷ little_bytes 2 h.port ++ h.ip ++ little_bytes 4 h.speed ++ results_bytes h.results ++ h.trailer ++ h.servent.0

-- the numbers of a result fit their bytes
pub record HasNumbers (r : ResultFields) : Type 0 where
  pub file : r.file < 2 ^ 32
  pub size : r.size < 2 ^ 32
