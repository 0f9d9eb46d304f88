-- Laws of whose steps are whose: a link's actors have receipts of all that the history says of the link's connection.
--
-- Here `steps` is a history in order, the oldest step first, and `reverse steps` the past that the definitions of the rules
-- are given. Of n links, actor k below n reads link k, and actor n + k writes it; every other actor routes.
use Rattle.std.specs.Prelude.{◌≡◌, ◌≤◌, ◌<◌, ◌+◌, ◌↔◌, ◌==◌, ◌&&◌, ℕ, zero, suc, Bool, true, false, nat_lt, not, List, [], ◌∷◌, filter, length, reverse, is_some, slice_index_or, Option, Some, None}
use Rattle.std.specs.List.{count_by, filter_map, list_all, list_any, sum_by}
use Rattle.std.specs.Option.{option_or}
use Rattle.gn_wire.specs.Packet.{Packet}
use Rattle.gn_rules.specs.declared.config.Config.{Config}
use Rattle.gn_rules.specs.declared.event.Event.{Event}
use Rattle.gn_rules.specs.declared.event.Event.TheVariants.{Connect, Close, Admit, Route, Take}
use Rattle.gn_rules.specs.declared.receipt.Receipt.{Receipt}
use Rattle.gn_rules.specs.declared.receipt.Step.{Step}
use Rattle.gn_rules.specs.Flight.{admission_of}
use Rattle.gn_rules.specs.History.{closed_of, connected_of, is_at, is_close, taken_of, ticket_of, mine, step_of}
use Rattle.gn_rules.specs.Answer.{IsLegal}
use Rattle.gn_rules.specs.Output.{queued, taken}

-- how many receipts the actors below n have
abbrev pub receipts_below : {A : Type 0} → List (Step A) → ℕ → ℕ
receipts_below steps zero = 0
receipts_below steps (suc n) = receipts_below steps n + length (mine steps n)

-- the connection of the first reply Connected among receipts
abbrev pub known_conn : {A : Type 0} → List (Receipt A) → Option ℕ
known_conn [] = None
known_conn (r ∷ receipts) = option_or (connected_of r.reply) (known_conn receipts)

-- whether this connection's reader may make the event: Connect, Admit and Close of the connection, and Route
abbrev pub is_readers : {A : Type 0} → Option ℕ → Event A → Bool
is_readers conn Connect = true
is_readers conn (Admit c d) = is_at c conn
is_readers conn (Close c) = is_at c conn
is_readers conn (Route t) = true
is_readers conn event = false

-- whether this connection's writer may make the event: Take and Close of the connection
abbrev pub is_writers : {A : Type 0} → Option ℕ → Event A → Bool
is_writers conn (Take c) = is_at c conn
is_writers conn (Close c) = is_at c conn
is_writers conn event = false

-- what is compared of each actor's steps, where link k's connection is `conns` at k
pub record AreCompared {A : Type 0} (steps : List (Step A)) (conns : List (Option ℕ)) : Type 0 where
  -- a link's connection is the one that its reader was given
  pub connected : (k : ℕ) → k < length conns → slice_index_or conns k None ≡ known_conn (mine steps k)
  -- readers' events
  pub readers : (k : ℕ) → k < length conns
      → list_all (λ r. is_readers (slice_index_or conns k None) r.event) (mine steps k) ≡ true
  -- writers' events
  pub writers : (k : ℕ) → k < length conns
      → list_all (λ r. is_writers (slice_index_or conns k None) r.event) (mine steps (length conns + k)) ≡ true
  -- every other actor's events
  pub others : (a : ℕ) → length conns + length conns ≤ a
      → list_all (λ r. is_some (ticket_of r.event)) (mine steps a) ≡ true

-- the packets of the Taken replies among receipts, in order
abbrev pub packets_of : {A : Type 0} → List (Receipt A) → List Packet
packets_of receipts = filter_map (λ r. taken_of r.reply) receipts

-- the actors below n have as many receipts as the history has steps exactly where no step is of another actor
abbrev pub ReceiptsAddUp : Type 0 → Type 0
ReceiptsAddUp A =
    (steps : List (Step A)) (n : ℕ)
    → (receipts_below steps n ≡ length steps) ↔ (list_all (λ step. nat_lt step.actor n) steps ≡ true)

-- the indices of receipts ascend, and none is below i
abbrev pub indices_ascend : {A : Type 0} → ℕ → List (Receipt A) → Bool
indices_ascend i [] = true
indices_ascend i (r ∷ receipts) = not (nat_lt r.index i) && indices_ascend (r.index + 1) receipts

-- receipts that fit actor a's steps
pub record AreFitting {A : Type 0} (steps : List (Step A)) (a : ℕ) (receipts : List (Receipt A)) : Type 0 where
  -- each receipt's index is the place of a step of this actor, with the receipt's event and reply
  pub stands : (j : ℕ) (r : Receipt A) (d : Step A) → j < length receipts
      → ((slice_index_or receipts j r).index < length steps)
      × (slice_index_or steps (slice_index_or receipts j r).index d ≡ step_of a (slice_index_or receipts j r))
  -- and the indices ascend
  pub ascend : indices_ascend 0 receipts ≡ true

-- an actor's own steps, as receipts, fit it: each stands at its index, and the indices ascend
abbrev pub ReceiptsInOrder : Type 0 → Type 0
ReceiptsInOrder A = (steps : List (Step A)) (a : ℕ) → AreFitting steps a (mine steps a)

-- in a legal history no two actors have a receipt replied Connected(c)
abbrev pub ConnectedToOne : Type 0 → Type 0
ConnectedToOne A =
    (s : Config) (steps : List (Step A)) (c j k : ℕ) → IsLegal s (reverse steps)
    → list_any (λ r. is_at c (connected_of r.reply)) (mine steps j) ≡ true
    → list_any (λ r. is_at c (connected_of r.reply)) (mine steps k) ≡ true
    → j ≡ k

-- what a link's two actors have receipts of, about its connection c
pub record LinkAgrees {A : Type 0} (steps : List (Step A)) (reader writer c : ℕ) : Type 0 where
  -- the descriptors that the reader's receipts offer are all that the history offers on c, in order
  pub offers : filter_map (λ r. admission_of r.event) (mine steps reader)
      ≡ filter (λ offer. offer.origin == c) (filter_map (λ step. admission_of step.event) steps)
  -- the packets that the writer's receipts took are all that the history took from c, in order
  pub takes : packets_of (mine steps writer) ≡ taken (reverse steps) c
  -- where one of the writer's receipts is of a Close(c) replied Closed(0), these packets are all that the history ever
  -- queued to c
  pub drained : list_any (λ r. is_close c r.event && is_at 0 (closed_of r.reply)) (mine steps writer) ≡ true
      → packets_of (mine steps writer) ≡ queued (reverse steps) c

-- in a legal history whose actors' steps are as compared, the two actors of a link that has a connection have receipts of
-- all of it
abbrev pub LinksAgree : Type 0 → Type 0
LinksAgree A =
    (s : Config) (steps : List (Step A)) (conns : List (Option ℕ)) (k c : ℕ)
    → IsLegal s (reverse steps) → AreCompared steps conns → k < length conns → slice_index_or conns k None ≡ Some c
    → LinkAgrees steps k (length conns + k) c

-- lists of receipts, one for each actor, that fit them and are as many in all as the history has steps: these are the
-- actors' own steps, and no step is of another actor. So each receipt is looked up once, and no history is searched
abbrev pub FittingAreMine : Type 0 → Type 0
FittingAreMine A =
    (steps : List (Step A)) (all : List (List (Receipt A)))
    → ((a : ℕ) → a < length all → AreFitting steps a (slice_index_or all a []))
    → sum_by (λ receipts. length receipts) all ≡ length steps
    → ((a : ℕ) → a < length all → slice_index_or all a [] ≡ mine steps a)
    × (list_all (λ step. nat_lt step.actor (length all)) steps ≡ true)

-- receipts are an actor's own steps exactly where they fit it and are as many as its steps: so the steps of each actor
-- are counted in one pass, and each receipt is looked up once
abbrev pub FittingIsMine : Type 0 → Type 0
FittingIsMine A =
    (steps : List (Step A)) (a : ℕ) (receipts : List (Receipt A))
    → (receipts ≡ mine steps a)
    ↔ (AreFitting steps a receipts × (length receipts ≡ count_by (λ step. step.actor == a) steps))

-- where no step is of an actor from n on, such an actor has no receipts
abbrev pub StrangersHaveNone : Type 0 → Type 0
StrangersHaveNone A =
    (steps : List (Step A)) (n a : ℕ) → list_all (λ step. nat_lt step.actor n) steps ≡ true → n ≤ a → mine steps a ≡ []
