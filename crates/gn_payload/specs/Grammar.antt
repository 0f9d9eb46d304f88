-- The grammar of payloads: which fields are a reading of which bytes. Numbers have their least byte first, addresses
-- stand as they are written.
use Rattle.std.specs.Prelude.{◌≡◌, ◌<◌, ◌≤◌, ℕ, List, [], ◌∷◌, ◌++◌, length, drop, slice_index}
use Rattle.std.specs.List.{AllByRecursion}
use Rattle.gn_payload.specs.declared.pong.Pong.{Pong}
use Rattle.gn_payload.specs.declared.push.Push.{Push}
use Rattle.gn_payload.specs.Fields.{QueryFields, ResultFields, HitFields, number_at, bytes_at, push_servent, hit_servent, hit_middle}

-- a text: none of its bytes is zero
abbrev pub IsText : List ℕ → Type 0
IsText = AllByRecursion (λ b. 0 < b)

-- a text, the zero byte that ends it, and what follows
pub record IsEnded (bytes text rest : List ℕ) : Type 0 where
  pub encoded : bytes ≡ text ++ 0 ∷ rest
  pub nonzero : IsText text

-- a Pong has 14 bytes, each field at its place
pub record IsPong (bytes : List ℕ) (p : Pong) : Type 0 where
  pub size : length bytes ≡ 14
  pub port : p.port ≡ number_at 2 0 bytes
  pub ip : p.ip ≡ bytes_at 4 2 bytes
  pub files : p.files ≡ number_at 4 6 bytes
  pub kbytes : p.kbytes ≡ number_at 4 10 bytes

-- a Push has 26 bytes, each field at its place
pub record IsPush (bytes : List ℕ) (p : Push) : Type 0 where
  pub size : length bytes ≡ 26
  pub servent : p.servent ≡ push_servent bytes
  pub file : p.file ≡ number_at 4 16 bytes
  pub ip : p.ip ≡ bytes_at 4 20 bytes
  pub port : p.port ≡ number_at 2 24 bytes

-- a Query: the speed, an ended text, and the tail
pub record IsQuery (bytes : List ℕ) (q : QueryFields) : Type 0 where
  pub speed : q.speed ≡ number_at 2 0 bytes
  pub text : IsEnded (drop 2 bytes) q.text q.tail

-- a result and what follows it: the file's index and size, an ended name and an ended extra text
pub record IsResult (bytes : List ℕ) (r : ResultFields) (rest : List ℕ) : Type 0 where
  pub file : r.file ≡ number_at 4 0 bytes
  pub size : r.size ≡ number_at 4 4 bytes
  pub texts : (more : List ℕ) × IsEnded (drop 8 bytes) r.name more × IsEnded more r.extra rest

-- results, one after another, and what follows the last
abbrev pub AreResults : List ℕ → List ResultFields → List ℕ → Type 0
AreResults bytes [] rest = bytes ≡ rest
AreResults bytes (r ∷ rs) rest = (more : List ℕ) × IsResult bytes r more × AreResults more rs rest

-- a Query Hit: its number of results, its fields at their places, as many results and the trailer after them, and its
-- servent at the end
pub record IsHit (bytes : List ℕ) (h : HitFields) : Type 0 where
  pub size : 27 ≤ length bytes
  pub hits : length h.results ≡ slice_index bytes 0
  pub port : h.port ≡ number_at 2 1 bytes
  pub ip : h.ip ≡ bytes_at 4 3 bytes
  pub speed : h.speed ≡ number_at 4 7 bytes
  pub results : AreResults (hit_middle bytes) h.results h.trailer
  pub servent : h.servent ≡ hit_servent bytes
