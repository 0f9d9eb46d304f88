-- Laws of one router: what it sends of a request, how a descriptor's life falls, that nothing is sent again while it is
-- remembered, and that nothing comes from nowhere.
--
-- In each law `past` is a history with its newest step first, as in the definitions of the rules.
use Rattle.std.specs.Prelude.{◌≡◌, ◌≢◌, ◌≤◌, ◌<◌, ◌+◌, ◌==◌, ◌&&◌, not, ℕ, Bool, true, false, if◌then◌else◌, List, [], ◌∷◌, ◌++◌, length, map, filter, take, Option, Some, None, Ok, ◌⊎◌}
use Rattle.std.specs.List.{AllByRecursion, Contains, IsDistinct, count_by}
use Rattle.std.specs.Option.{option_to_list}
use Rattle.gn_wire.specs.declared.key.Key.{Key}
use Rattle.gn_wire.specs.declared.kind.Kind.{Kind}
use Rattle.gn_wire.specs.declared.kind.Kind.TheVariants.{Ping, Push, Query}
use Rattle.gn_wire.specs.Packet.{forward_of, is_expired, Packet}
use Rattle.gn_wire.specs.Keys.{is_same_key, key_of}
use Rattle.gn_payload.specs.Reading.{has_reading}
use Rattle.gn_rules.specs.declared.config.Config.{Config}
use Rattle.gn_rules.specs.declared.event.Event.{Event}
use Rattle.gn_rules.specs.declared.event.Event.TheVariants.{Admit, Route, Originate}
use Rattle.gn_rules.specs.declared.receipt.Step.{Step}
use Rattle.gn_rules.specs.declared.reply.Reply.{Reply}
use Rattle.gn_rules.specs.declared.reply.Reply.TheVariants.{Admitted, Sent}
use Rattle.gn_rules.specs.declared.sends.Sending.{Sending}
use Rattle.gn_rules.specs.Answer.{answer, is_request, IsLegal}
use Rattle.gn_rules.specs.Flight.{Admission, admission}
use Rattle.gn_rules.specs.History.{live, sends_of}
use Rattle.gn_rules.specs.Output.{queued}
use Rattle.gn_rules.specs.Sending.{is_ping, own_pong}
use Rattle.gn_rules.specs.SeenEntries.{entry_of, is_remembered}
use Rattle.gn_paths.specs.Paths.{kept_since}

-- the packets of these sends that go to c, whether they were queued or lost
abbrev pub sent_to : {A : Type 0} → ℕ → List (Sending A) → List Packet
sent_to c sends = map (λ x. x.packet) (filter (λ x. x.to == c) sends)

-- whether a descriptor is news: its payload is as its kind asks, and its key isn't remembered
abbrev pub is_news : {A : Type 0} → Config → List (Step A) → Packet → Bool
is_news s past d = has_reading d.kind d.payload && not (is_remembered s past (key_of d))

-- what a request sends to c: to the connection that brought it the own Pong alone, where it is a Ping and this connection is
-- live; to each other live connection the forward alone, unless the request is expired; else nothing
abbrev pub spread_to : {A : Type 0} → Config → List (Step A) → Admission → ℕ → List Packet
spread_to s past a c =
    if c == a.origin then (if is_ping a.packet.kind && live past c then own_pong s.own a.packet ∷ [] else [])
    else (if live past c && not (is_expired s.numbers.life a.packet) then forward_of s.numbers.life a.packet ∷ [] else [])

-- requests spread once: in a legal history the Route of an admitted Ping or Query that is news sends each connection just that,
-- and the Route of any other sends nothing
abbrev pub RequestsSpread : Type 0 → Type 0
RequestsSpread A =
    (s : Config) (past : List (Step A)) (t : ℕ) (reply : Reply A) (a : Admission) (c : ℕ)
    → IsLegal s past → answer s past (Route t) ≡ Ok reply → admission past t ≡ Some a → is_request a.packet.kind ≡ true
    → sent_to c (sends_of reply) ≡ (if is_news s past a.packet then spread_to s past a c else [])

-- p is d passed on under this limit on its life: one Hop more, less TTL but some, and all else the same. So TTL and Hops
-- together never rise; and where there is a limit, they are at most the limit, so p has fewer Hops than that
pub record IsForward (life : ℕ) (d p : Packet) : Type 0 where
  pub id : p.id ≡ d.id
  pub kind : p.kind ≡ d.kind
  pub payload : p.payload ≡ d.payload
  pub hops : p.hops ≡ d.hops + 1
  pub ttl_falls : p.ttl < d.ttl
  pub ttl_left : 0 < p.ttl
  pub rises_not : p.ttl + p.hops ≤ d.ttl + d.hops
  pub limited : 0 < life → p.ttl + p.hops ≤ life

-- a send of a Route is the own Pong to the connection that brought the Ping, or passes what was admitted on to another one
abbrev pub IsOwnOrOn : {A : Type 0} → Config → Admission → Sending A → Type 0
IsOwnOrOn s a x =
    ((a.packet.kind ≡ Ping) × (x.to ≡ a.origin) × (x.packet ≡ own_pong s.own a.packet))
    ⊎ ((x.to ≢ a.origin) × IsForward s.numbers.life a.packet x.packet)

-- life falls: each packet that a Route sends is the own Pong, or what was admitted, passed on
abbrev pub LifeFalls : Type 0 → Type 0
LifeFalls A =
    (s : Config) (past : List (Step A)) (t : ℕ) (reply : Reply A) (a : Admission)
    → answer s past (Route t) ≡ Ok reply → admission past t ≡ Some a
    → AllByRecursion (λ x. IsOwnOrOn s a x) (sends_of reply)

-- whether a descriptor of this kind is remembered: a request or a Push
abbrev pub is_kept_kind : Kind → Bool
is_kept_kind Ping = true
is_kept_kind Query = true
is_kept_kind Push = true
is_kept_kind kind = false

-- how many of these sends are of a packet of this key
abbrev pub sends_of_key : {A : Type 0} → Key → List (Sending A) → ℕ
sends_of_key key sends = count_by (λ x. is_same_key key (key_of x.packet)) sends

-- these entries, the newest first, are at least n, and the n newest are of different keys, none of which is this one
pub record AreOthers (n : ℕ) (key : Key) (entries : List (Key × ℕ)) : Type 0 where
  pub many : n ≤ length entries
  pub different : IsDistinct is_same_key (key ∷ map (λ entry. entry.0) (take n entries))

-- nothing is sent again while it is remembered, and before it is forgotten as many others are kept as may be remembered
pub record NotSentAgain (A : Type 0) : Type 0 where
  -- while the key of a Ping, Query or Push is remembered, no answered event sends a packet of it
  pub silent : (s : Config) (past : List (Step A)) (event : Event A) (reply : Reply A) (key : Key)
      → answer s past event ≡ Ok reply → is_kept_kind key.kind ≡ true → is_remembered s past key ≡ true
      → sends_of_key key (sends_of reply) ≡ 0
  -- in a legal history, between two steps that keep one key, so many other keys were kept as are remembered
  pub kept : (s : Config) (second : Step A) (between : List (Step A)) (first : Step A) (earlier : List (Step A)) (key : Key)
      (c d : ℕ) → IsLegal s (second ∷ between ++ first ∷ earlier)
      → entry_of earlier first.event first.reply ≡ Some (key, c)
      → entry_of (between ++ first ∷ earlier) second.event second.reply ≡ Some (key, d)
      → AreOthers s.numbers.seen key (kept_since between (first ∷ earlier))
  -- and so between two steps that each send a packet of one key of a Ping, Query or Push
  pub sent : (s : Config) (second : Step A) (between : List (Step A)) (first : Step A) (earlier : List (Step A)) (key : Key)
      → IsLegal s (second ∷ between ++ first ∷ earlier) → is_kept_kind key.kind ≡ true
      → 0 < sends_of_key key (sends_of first.reply) → 0 < sends_of_key key (sends_of second.reply)
      → AreOthers s.numbers.seen key (kept_since between (first ∷ earlier))

-- the descriptor that a step admits on c
abbrev pub admitted_by : {A : Type 0} → ℕ → Event A → Reply A → Option Packet
admitted_by c (Admit d packet) (Admitted t) = if d == c then Some packet else None
admitted_by c event reply = None

-- all descriptors that were ever admitted on c, from the first on
abbrev pub admitted_on : {A : Type 0} → List (Step A) → ℕ → List Packet
admitted_on [] c = []
admitted_on (step ∷ earlier) c = admitted_on earlier c ++ option_to_list (admitted_by c step.event step.reply)

-- the local servent's own descriptor that a step sends
abbrev pub originated_by : {A : Type 0} → Event A → Reply A → Option Packet
originated_by (Originate d) (Sent sends) = Some d
originated_by event reply = None

-- all descriptors of its own that the local servent ever sent, from the first on
abbrev pub originated : {A : Type 0} → List (Step A) → List Packet
originated [] = []
originated (step ∷ earlier) = originated earlier ++ option_to_list (originated_by step.event step.reply)

-- p is the own Pong to a Ping that c admitted
abbrev pub IsOwnPong : {A : Type 0} → Config → List (Step A) → ℕ → Packet → Type 0
IsOwnPong s past c p =
    (ping : Packet) × Contains (admitted_on past c) ping × (ping.kind ≡ Ping) × (p ≡ own_pong s.own ping)

-- p is a descriptor that another connection than c admitted, passed on
abbrev pub IsPassedOn : {A : Type 0} → Config → List (Step A) → ℕ → Packet → Type 0
IsPassedOn s past c p =
    (from : ℕ) × (d : Packet) × Contains (admitted_on past from) d × (from ≢ c) × IsForward s.numbers.life d p

-- nothing comes from nowhere: in a legal history each packet that was ever queued to c is the own Pong to a Ping that c
-- admitted, a descriptor of the local servent's own, or one that another connection admitted, passed on
abbrev pub NothingFromNowhere : Type 0 → Type 0
NothingFromNowhere A =
    (s : Config) (past : List (Step A)) (c : ℕ) (p : Packet) → IsLegal s past → Contains (queued past c) p
    → IsOwnPong s past c p ⊎ (Contains (originated past) p ⊎ IsPassedOn s past c p)
