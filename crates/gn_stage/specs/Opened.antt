-- Which stage an end belongs to.
use Rattle.std.specs.Prelude.{◌≡◌, ℕ, []}
use Rattle.atomic_table.specs.declared.badge.Badge.{Badge}
use Rattle.atomic_table.specs.Seated.{TableId}
use Rattle.crossbeam_channel.specs.declared.flavors.array.Key.{Key}
use Rattle.crossbeam_channel.specs.declared.flavors.array.Doing.{Doing}
use Rattle.crossbeam_channel.specs.declared.flavors.array.Rows.{Rows}
use Rattle.crossbeam_channel.specs.Claims.{Pass, IsKeyed, no_key, view}
use Rattle.crossbeam_channel.specs.Ends.{ruled_capacity}

-- a stage that was opened: the names that its channel goes by, and how many jobs it has room for
pub record Opened (J : Type 0) : Type 0 where
  pub table : TableId
  pub key : Badge (Key J)
  pub capacity : ℕ

-- no stage
abbrev pub nowhere : {J : Type 0} → Opened J
nowhere = record {
  table = record { words = 0; slots = 0; views_name = 0; atom = 0; block = 0; offset = 0; slot_names = [] };
  key = no_key;
  capacity = 0;
}

-- a pass of this stage that is in the middle of no step
abbrev pub IsPassOf : {J V : Type 0} → Opened J → Pass J V → Type 0
IsPassOf stage p = (p.table_id ≡ stage.table) × (p.me.0.of ≡ stage.key) × (p.me.1 ≡ [])

-- this stage's channel
abbrev pub IsLineOf : {J V Q M L A : Type 0} → Opened J → Rows (Badge (Key J)) (Doing J V) Q M (Key J) L A → Type 0
IsLineOf stage c =
    (c.stamps.shared.table_id ≡ stage.table) × (c.stamps.shared.key ≡ stage.key) × IsKeyed c × (ruled_capacity c ≡ stage.capacity)

-- what a pass knows
abbrev pub knows : {J V : Type 0} → Pass J V → V
knows p = view p
