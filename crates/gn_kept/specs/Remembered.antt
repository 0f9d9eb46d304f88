-- The descriptors that a router remembers.
use Rattle.std.specs.Prelude.{◌≡◌, ◌<◌, ◌≤◌, ℕ, List, ◌∷◌, length, take, Option, cond, if◌then◌else◌, None}
use Rattle.std.specs.List.{IsDistinct}
use Rattle.std.specs.Map.{lookup, keys_of}
use Rattle.std.specs.Option.{option_map_or}
use Rattle.gn_wire.specs.declared.key.Key.{Key}
use Rattle.gn_wire.specs.Keys.{is_same_key, key_of}
use Rattle.gn_rules.specs.declared.reply.Reply.{Reply}
use Rattle.gn_rules.specs.Flight.{Admission}
use Rattle.gn_rules.specs.SeenEntries.{keeps}

-- the seen entries, newest first: each the key of a descriptor and where it came from; and how many there may be
pub record Remembered : Type 0 where
  pub seen_entries : List (Key × ℕ)
  pub most : ℕ

-- the table with one more seen entry first; where it was full, the last one is forgotten
abbrev pub with_entry : Key → ℕ → Remembered → Remembered
with_entry key from t = record t { seen_entries = take t.most ((key, from) ∷ t.seen_entries) }

-- the table after a route with this reply: with the descriptor's key and source where it is kept
abbrev pub with_kept : {A : Type 0} → Reply A → Admission → Remembered → Remembered
with_kept reply a t = if keeps a.packet.kind reply then with_entry (key_of a.packet) a.origin t else t

-- a key that is kept isn't there yet
abbrev pub IsNewKey : Key → Remembered → Type 0
IsNewKey key t = lookup (is_same_key key) t.seen_entries ≡ None

-- what every table keeps: it isn't too long, and no key stands in it twice
pub record IsRemembered (t : Remembered) : Type 0 where
  pub few : length t.seen_entries ≤ t.most
  pub distinct : IsDistinct is_same_key (keys_of t.seen_entries)

-- what a search for q finds, once the seen entry that fell out is forgotten
abbrev pub forgotten : Option (Key × ℕ) → Key → Option ℕ → Option ℕ
forgotten fallen q found = option_map_or (λ e. cond (is_same_key e.0 q) None found) fallen found

-- the hashed sources are those of the listed seen entries
pub record AreSources (sources seen_entries : List (Key × ℕ)) (most : ℕ) : Type 0 where
  pub positive : 0 < most
  pub few : length seen_entries ≤ most
  pub distinct : IsDistinct is_same_key (keys_of seen_entries)
  pub same : (key : Key) → lookup (is_same_key key) sources ≡ lookup (is_same_key key) seen_entries
