-- Two routers that one link joins, and what the laws of paths say where a Query Hit came over it.
use Rattle.std.specs.Prelude.{◌≡◌, ◌≤◌, ◌==◌, ℕ, true, zero, suc, if◌then◌else◌, List, [], ◌∷◌, ◌++◌, Option, Some, None}
use Rattle.gn_wire.specs.declared.key.Key.{Key}
use Rattle.gn_wire.specs.declared.kind.Kind.TheVariants.{Query, QueryHit}
use Rattle.gn_wire.specs.Packet.{Packet}
use Rattle.gn_rules.specs.declared.config.Config.{Config}
use Rattle.gn_rules.specs.declared.receipt.Step.{Step}
use Rattle.gn_rules.specs.Output.{taken}
use Rattle.gn_paths.specs.Networks.{CameBy, Carries, CarriesInTime, HasKey, IsNetwork, Network, put_on, RemembersAll}
use Rattle.gn_paths.specs.Sends.{admitted_by, is_kept_kind}

-- the first router is number 0, the second number 1; no other has made a step
abbrev pub history_of : {A : Type 0} → List (Step A) → List (Step A) → ℕ → List (Step A)
history_of first second zero = first
history_of first second (suc zero) = second
history_of first second (suc (suc i)) = []

-- the first one's c is joined to the second one's d, and nothing else is joined
abbrev pub joined_by : ℕ → ℕ → ℕ → ℕ → Option (ℕ × ℕ)
joined_by c d zero e = if e == c then Some (1, d) else None
joined_by c d (suc zero) e = if e == d then Some (0, c) else None
joined_by c d (suc (suc i)) e = None

-- two routers of one configuration, which a link between c and d joins
abbrev pub pair : {A : Type 0} → Config → List (Step A) → ℕ → List (Step A) → ℕ → Network A
pair s first c second d = record { settings = λ i. s; history = history_of first second; joined = joined_by c d }

-- a step admitted a Query Hit on the connection c, after these steps
pub record HitAdmitted {A : Type 0} (past : List (Step A)) (c : ℕ) : Type 0 where
  pub later : List (Step A)
  pub step : Step A
  pub earlier : List (Step A)
  pub stands : past ≡ later ++ step ∷ earlier
  pub hit : Packet
  pub admitted : admitted_by c step.event step.reply ≡ Some hit
  pub is_hit : hit.kind ≡ QueryHit

-- some first steps of one router, such that until then the link had carried to it and to the other, whose steps these are, only
-- what it was given
abbrev pub HasMoment : {A : Type 0} → List (Step A) → ℕ → List (Step A) → ℕ → Type 0
HasMoment {A} first c earlier d =
    (after : List (Step A)) × (before : List (Step A)) × (first ≡ after ++ before) × Carries before c earlier d
    × Carries earlier d before c

-- a Query Hit came over the link between two routers to the first one, and what the laws of paths say of it
pub record CameOver {A : Type 0} (s : Config) (first : List (Step A)) (c : ℕ) (second : List (Step A)) (d : ℕ) : Type 0 where
  pub joined : IsNetwork (pair s first c second d)
  pub timely : CarriesInTime second d first c
  pub came : HitAdmitted first c
  -- the Query of its ID had gone over the link
  pub crossed : HasKey (taken first c) (record { kind = Query; id = came.hit.id })
  -- and before
  pub followed : HasKey (taken came.earlier c) (record { kind = Query; id = came.hit.id })
  -- it came from the outside by a path along which that Query had gone, of no more links than it has Hops
  pub back : CameBy (pair s first c second d) Query came.hit came.hit.hops 0 c

-- two routers that a link joins remember all that they kept, and what the laws of paths say of a flood there
pub record Ends {A : Type 0} (s : Config) (first : List (Step A)) (c : ℕ) (second : List (Step A)) (d : ℕ) : Type 0 where
  pub joined : IsNetwork (pair s first c second d)
  pub remembers : (i : ℕ) → RemembersAll (pair s first c second d) i
  -- at most one packet of each key of a Ping, Query or Push is put on each end of a link
  pub once : (key : Key) (end : ℕ × ℕ) → is_kept_kind key.kind ≡ true → put_on (pair s first c second d) key end ≤ 1
