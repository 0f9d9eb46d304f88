-- Laws of one router: an answer goes back to the connection that its request came from, and a Push to the one that told of its
-- servent.
--
-- In each law `past` is a history with its newest step first, as in the definitions of the rules. Where a law speaks of an
-- answer after `past`, it holds of each step of a legal history, since each is answered so after the steps before it.
use Rattle.std.specs.Prelude.{◌≡◌, ◌≢◌, ◌<◌, ℕ, true, false, List, [], ◌∷◌, ◌++◌, length, Option, Some, None, Ok, ◌⊎◌}
use Rattle.std.specs.List.{list_any}
use Rattle.std.specs.Option.{option_to_list}
use Rattle.gn_wire.specs.declared.key.Key.{Key}
use Rattle.gn_wire.specs.declared.kind.Guid.{Guid}
use Rattle.gn_wire.specs.declared.kind.Kind.{Kind}
use Rattle.gn_wire.specs.declared.kind.Kind.TheVariants.{Push, QueryHit}
use Rattle.gn_wire.specs.Packet.{forward_of, is_expired, Packet}
use Rattle.gn_wire.specs.Keys.{is_same_id, is_same_key, key_of}
use Rattle.gn_payload.specs.Fields.{hit_servent, push_servent}
use Rattle.gn_rules.specs.declared.config.Config.{Config}
use Rattle.gn_rules.specs.declared.event.Event.TheVariants.{Route}
use Rattle.gn_rules.specs.declared.receipt.Step.{Step}
use Rattle.gn_rules.specs.declared.reply.Reply.{Reply}
use Rattle.gn_rules.specs.declared.routing.Routing.{Routing}
use Rattle.gn_rules.specs.declared.routing.Routing.TheVariants.{Back}
use Rattle.gn_rules.specs.declared.sends.Sending.{Sending}
use Rattle.gn_rules.specs.Answer.{answer}
use Rattle.gn_rules.specs.Flight.{Admission, admission}
use Rattle.gn_rules.specs.History.{is_routed_reply, live, sends_of}
use Rattle.gn_rules.specs.Routings.{routing_of}
use Rattle.gn_rules.specs.Sending.{send}
use Rattle.gn_rules.specs.ServentLaw.{others}
use Rattle.gn_rules.specs.Servents.{hit_of}
use Rattle.gn_rules.specs.SeenEntries.{entry_of, keeps}

-- the kind of request that a descriptor so routed answers
abbrev pub asked_kind : Routing → Option Kind
asked_kind (Back kind) = Some kind
asked_kind routing = None

-- the kind of request that a descriptor of a kind answers: a Pong a Ping, a Query Hit a Query
abbrev pub answered_kind : Kind → Option Kind
answered_kind kind = asked_kind (routing_of kind)

-- what was admitted is sent on once and to one connection, which is live and isn't the one that brought it; and it isn't expired
pub record IsSentBack {A : Type 0} (s : Config) (past : List (Step A)) (a : Admission) (sends : List (Sending A)) : Type 0 where
  pub to : ℕ
  pub once : sends ≡ send s past (forward_of s.numbers.life a.packet) to ∷ []
  pub alive : live past to ≡ true
  pub other : to ≢ a.origin
  pub unexpired : is_expired s.numbers.life a.packet ≡ false

-- an earlier step routed a descriptor that the connection c had brought
pub record RoutedFrom {A : Type 0} (past : List (Step A)) (c : ℕ) : Type 0 where
  pub later : List (Step A)
  pub step : Step A
  pub earlier : List (Step A)
  pub ticket : ℕ
  pub packet : Packet
  pub stands : past ≡ later ++ step ∷ earlier
  pub routes : step.event ≡ Route ticket
  pub admitted : admission earlier ticket ≡ Some (record { origin = c; packet = packet })

-- the entries that the steps `later` kept after the steps `earlier`, the newest first
abbrev pub kept_since : {A : Type 0} → List (Step A) → List (Step A) → List (Key × ℕ)
kept_since [] earlier = []
kept_since (step ∷ later) earlier =
    option_to_list (entry_of (later ++ earlier) step.event step.reply) ++ kept_since later earlier

-- among the last n entries the last of this key is of a request that c brought: an earlier step routed and kept the request,
-- and since then fewer than n entries were kept, none of them of this key
pub record CameFrom {A : Type 0} (n : ℕ) (past : List (Step A)) (key : Key) (c : ℕ) : Type 0 where
  pub request : RoutedFrom past c
  pub same : key_of request.packet ≡ key
  pub kept : keeps request.packet.kind request.step.reply ≡ true
  pub few : length (kept_since request.later (request.step ∷ request.earlier)) < n
  pub newest : list_any (λ entry. is_same_key key entry.0) (kept_since request.later (request.step ∷ request.earlier)) ≡ false

-- what was admitted goes back: to the connection that the remembered request of this key came from
pub record GoesBack {A : Type 0} (s : Config) (past : List (Step A)) (a : Admission) (key : Key)
    (sends : List (Sending A)) : Type 0 where
  pub back : IsSentBack s past a sends
  pub asked : CameFrom s.numbers.seen past key back.to

-- answers go back: the Route of an admitted Pong or Query Hit sends nothing, or sends it to the connection that the request of
-- its ID came from, a Ping or a Query
abbrev pub AnswersGoBack : Type 0 → Type 0
AnswersGoBack A =
    (s : Config) (past : List (Step A)) (t : ℕ) (reply : Reply A) (a : Admission) (kind : Kind)
    → answer s past (Route t) ≡ Ok reply → admission past t ≡ Some a → answered_kind a.packet.kind ≡ Some kind
    → (sends_of reply ≡ []) ⊎ GoesBack s past a (record { kind = kind; id = a.packet.id }) (sends_of reply)

-- the Query Hits that the steps `later` routed after the steps `earlier`, the newest first: of each its servent, and the
-- connection that brought it
abbrev pub hits_since : {A : Type 0} → List (Step A) → List (Step A) → List (Guid × ℕ)
hits_since [] earlier = []
hits_since (step ∷ later) earlier =
    option_to_list (hit_of (later ++ earlier) step.event step.reply) ++ hits_since later earlier

-- the last Query Hit of a servent is one that c brought: an earlier step routed it, and no later step routed one of this servent
pub record HitCameFrom {A : Type 0} (past : List (Step A)) (servent : Guid) (c : ℕ) : Type 0 where
  pub hit : RoutedFrom past c
  pub kind : hit.packet.kind ≡ QueryHit
  pub names : hit_servent hit.packet.payload ≡ servent
  pub routed : is_routed_reply hit.step.reply ≡ true
  pub newest : list_any (λ later. is_same_id servent later.0) (hits_since hit.later (hit.step ∷ hit.earlier)) ≡ false

-- what was admitted goes to the connection that the last Query Hit of this servent came from, where fewer other servents than
-- are remembered have a later one
pub record GoesToServent {A : Type 0} (s : Config) (past : List (Step A)) (a : Admission) (servent : Guid)
    (sends : List (Sending A)) : Type 0 where
  pub back : IsSentBack s past a sends
  pub told : HitCameFrom past servent back.to
  pub few : others past servent < s.numbers.servents

-- Pushes go back: the Route of an admitted Push sends nothing, or sends it to the connection that the last Query Hit of the
-- servent that it names came from
abbrev pub PushesGoBack : Type 0 → Type 0
PushesGoBack A =
    (s : Config) (past : List (Step A)) (t : ℕ) (reply : Reply A) (a : Admission)
    → answer s past (Route t) ≡ Ok reply → admission past t ≡ Some a → a.packet.kind ≡ Push
    → (sends_of reply ≡ []) ⊎ GoesToServent s past a (push_servent a.packet.payload) (sends_of reply)
