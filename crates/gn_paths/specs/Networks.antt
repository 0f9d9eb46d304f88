-- Laws of routers that are joined by links: what one of them admits on a connection is what the other took from its own.
--
-- Each router has a history of its own, with its newest step first.
use Rattle.std.specs.Prelude.{◌≡◌, ◌≢◌, ◌≤◌, ◌+◌, ℕ, zero, suc, true, List, ◌∷◌, ◌++◌, length, Option, Some, None, ◌⊎◌}
use Rattle.std.specs.List.{Contains, count_by, sum_by}
use Rattle.gn_wire.specs.declared.key.Key.{Key}
use Rattle.gn_wire.specs.declared.kind.Guid.{Guid}
use Rattle.gn_wire.specs.declared.kind.Kind.{Kind}
use Rattle.gn_wire.specs.declared.kind.Kind.TheVariants.{Push, Query, QueryHit}
use Rattle.gn_wire.specs.Packet.{Packet}
use Rattle.gn_wire.specs.Keys.{is_same_key, key_of}
use Rattle.gn_payload.specs.Fields.{hit_servent, push_servent}
use Rattle.gn_rules.specs.declared.config.Config.{Config}
use Rattle.gn_rules.specs.declared.receipt.Step.{Step}
use Rattle.gn_rules.specs.Answer.{IsLegal}
use Rattle.gn_rules.specs.Output.{taken}
use Rattle.gn_rules.specs.SeenEntries.{seen_entries}
use Rattle.gn_paths.specs.Paths.{answered_kind}
use Rattle.gn_paths.specs.Sends.{admitted_by, admitted_on, is_kept_kind, IsForward, IsOwnPong}

-- a link carries only what it is given: each packet that the second router admitted on its connection d, the first one took
-- from its connection c
abbrev pub Carries : {A : Type 0} → List (Step A) → ℕ → List (Step A) → ℕ → Type 0
Carries first c second d = (p : Packet) → Contains (admitted_on second d) p → Contains (taken first c) p

-- a descriptor of this key is among these
abbrev pub HasKey : List Packet → Key → Type 0
HasKey packets key = (request : Packet) × Contains packets request × (key_of request ≡ key)

-- a Query Hit of this servent is among these
abbrev pub HasHit : List Packet → Guid → Type 0
HasHit packets servent =
    (hit : Packet) × Contains packets hit × (hit.kind ≡ QueryHit) × (hit_servent hit.payload ≡ servent)

-- what crosses a link back, where the first router's history is legal, and the link between its c and the second router's d
-- carries only what it is given, in both directions. The second router's history needn't be legal
pub record AnswersCrossBack (A : Type 0) : Type 0 where
  -- for each answer that the second router admitted on d, it took a request of that ID from d; for a Pong a Ping, for a Query
  -- Hit a Query. So an answer crosses a link only where its request crossed it the other way
  pub answers : (s : Config) (first second : List (Step A)) (c d : ℕ) (p : Packet) (kind : Kind)
      → IsLegal s first → Carries first c second d → Carries second d first c
      → Contains (admitted_on second d) p → answered_kind p.kind ≡ Some kind
      → HasKey (taken second d) (record { kind = kind; id = p.id })
  -- for each Push that it admitted on d, it took a Query Hit of the servent that the Push names from d
  pub pushes : (s : Config) (first second : List (Step A)) (c d : ℕ) (push : Packet)
      → IsLegal s first → Carries first c second d → Carries second d first c
      → Contains (admitted_on second d) push → push.kind ≡ Push
      → HasHit (taken second d) (push_servent push.payload)

-- a link carries in time: for each moment of the second router there is a moment of the first one, such that until then the
-- link had carried only what it was given, in both directions
abbrev pub CarriesInTime : {A : Type 0} → List (Step A) → ℕ → List (Step A) → ℕ → Type 0
CarriesInTime {A} first c second d =
    (later earlier : List (Step A)) → second ≡ later ++ earlier
    → (after : List (Step A)) × (before : List (Step A)) × (first ≡ after ++ before) × Carries before c earlier d
    × Carries earlier d before c

-- answers follow: where a link carries in time, the second router took the request from d before it admitted the answer on d
abbrev pub AnswersFollow : Type 0 → Type 0
AnswersFollow A =
    (s : Config) (first later : List (Step A)) (step : Step A) (earlier : List (Step A)) (c d : ℕ) (p : Packet) (kind : Kind)
    → IsLegal s first → CarriesInTime first c (later ++ step ∷ earlier) d
    → admitted_by d step.event step.reply ≡ Some p → answered_kind p.kind ≡ Some kind
    → HasKey (taken earlier d) (record { kind = kind; id = p.id })

-- routers by numbers, each with its configuration and history, and what its connections are joined to: a connection of
-- another router, or nothing of the network, which is the outside
pub record Network (A : Type 0) : Type 0 where
  pub settings : ℕ → Config
  pub history : ℕ → List (Step A)
  pub joined : ℕ → ℕ → Option (ℕ × ℕ)

-- each history is legal; a link joins two connections, and carries only what it is given
pub record IsNetwork {A : Type 0} (net : Network A) : Type 0 where
  pub legal : (i : ℕ) → IsLegal (net.settings i) (net.history i)
  pub both : (i c j d : ℕ) → net.joined i c ≡ Some (j, d) → net.joined j d ≡ Some (i, c)
  pub carries : (i c j d : ℕ) → net.joined i c ≡ Some (j, d) → Carries (net.history i) c (net.history j) d

-- a request of this key went over a link, from router i's connection c to router j's connection d
pub record Asked {A : Type 0} (net : Network A) (key : Key) (i c j d : ℕ) : Type 0 where
  pub link : net.joined i c ≡ Some (j, d)
  pub took : HasKey (taken (net.history i) c) key
  pub admitted : HasKey (admitted_on (net.history j) d) key

-- an answer p to requests of a kind, which router i admitted on its connection c, came by a path of at most n links. It came
-- from the outside; or over a link, over which a request of its ID had gone the other way, from a router whose own Pong it is,
-- or which had admitted it on another connection, to which it came by a path of one link less, with one Hop less
abbrev pub CameBy : {A : Type 0} → Network A → Kind → Packet → ℕ → ℕ → ℕ → Type 0
CameBy net kind p zero i c = net.joined i c ≡ None
CameBy net kind p (suc n) i c =
    (net.joined i c ≡ None)
    ⊎ ((j : ℕ) × (d : ℕ) × Asked net (record { kind = kind; id = p.id }) i c j d
    × (IsOwnPong (net.settings j) (net.history j) d p
    ⊎ ((e : ℕ) × (q : Packet) × Contains (admitted_on (net.history j) e) q × (e ≢ d)
    × IsForward (net.settings j).numbers.life q p × CameBy net kind q n j e)))

-- answers came back, in a network of any size, by the paths that their requests had gone
pub record AnswersCameBack (A : Type 0) : Type 0 where
  -- each Pong and Query Hit that was admitted anywhere came by such a path, of at most one link more than it has Hops
  pub answers : (net : Network A) (i c : ℕ) (p : Packet) (kind : Kind) → IsNetwork net
      → Contains (admitted_on (net.history i) c) p → answered_kind p.kind ≡ Some kind
      → CameBy net kind p (p.hops + 1) i c
  -- a Query Hit came so from the outside, over at most as many links as it has Hops
  pub hits : (net : Network A) (i c : ℕ) (hit : Packet) → IsNetwork net
      → Contains (admitted_on (net.history i) c) hit → hit.kind ≡ QueryHit
      → CameBy net Query hit hit.hops i c

-- how many packets of this key a router put on its end of a link: on the connection of the second number, of the router of the
-- first
abbrev pub put_on : {A : Type 0} → Network A → Key → ℕ × ℕ → ℕ
put_on net key end = count_by (λ p. is_same_key key (key_of p)) (taken (net.history end.0) end.1)

-- a router remembers all that it ever kept
abbrev pub RemembersAll : {A : Type 0} → Network A → ℕ → Type 0
RemembersAll net i = length (seen_entries (net.history i)) ≤ (net.settings i).numbers.seen

-- floods end, in a network of any size: a request crosses each link once each way at most, where nothing is forgotten
pub record FloodsEnd (A : Type 0) : Type 0 where
  -- where a router remembers all, at most one packet of each Ping's, Query's or Push's key goes from it over each link
  pub once : (net : Network A) (key : Key) (end : ℕ × ℕ) → IsNetwork net → is_kept_kind key.kind ≡ true
      → RemembersAll net end.0 → put_on net key end ≤ 1
  -- where each router does, over any links, each given by its two ends, go at most two such packets a link
  pub all : (net : Network A) (key : Key) (links : List ((ℕ × ℕ) × (ℕ × ℕ))) → IsNetwork net → is_kept_kind key.kind ≡ true
      → ((i : ℕ) → RemembersAll net i)
      → sum_by (λ link. put_on net key link.0 + put_on net key link.1) links ≤ length links + length links
