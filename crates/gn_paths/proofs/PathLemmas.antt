-- What a Route rests on, and where what it sends comes from.
use Rattle.std.proofs.Common.{◌≡◌, ◌≢◌, ◌≤◌, ◌<◌, ◌-◌, ◌==◌, min, ℕ, zero, suc, Bool, true, false, ◌&&◌, ◌||◌, not, cond, if◌then◌else◌, nat_le, nat_lt, List, [], ◌∷◌, ◌++◌, length, filter, map, take, Option, Some, None, Ok, ◌⊎◌, inl, inr, refl, sym, ap, subst, ◌∙◌, arith}
use Rattle.std.specs.List.{AllByRecursion, list_any}
use Rattle.std.specs.Map.{lookup}
use Rattle.std.specs.Option.{option_map_or, option_to_list}
use Rattle.std.proofs.lemmas.Grind.{common_steps}
use Rattle.std.proofs.lemmas.Option.{cond_some, option_and_then_some, same_Some}
use Rattle.gn_wire.specs.declared.key.Key.{Key}
use Rattle.gn_wire.specs.declared.kind.Kind.{Kind}
use Rattle.gn_wire.specs.declared.kind.Kind.TheVariants.{Ping}
use Rattle.gn_wire.specs.Packet.{forward_of, is_expired, life_left, Packet}
use Rattle.gn_wire.specs.Keys.{is_same_id, is_same_key, key_of}
use Rattle.gn_wire.proofs.EqualityLemmas.{same_is_equal}
use Rattle.gn_payload.specs.declared.checked.Verdict.{Verdict}
use Rattle.gn_payload.specs.declared.checked.Verdict.TheVariants.{Sound, UnknownKind, Malformed}
use Rattle.gn_payload.specs.Fields.{push_servent}
use Rattle.gn_payload.specs.Reading.{verdict_of}
use Rattle.gn_rules.specs.declared.config.Config.{Config}
use Rattle.gn_rules.specs.declared.event.Event.{Event}
use Rattle.gn_rules.specs.declared.event.Event.TheVariants.{Route, Originate}
use Rattle.gn_rules.specs.declared.receipt.Step.{Step}
use Rattle.gn_rules.specs.declared.reply.DropReason.TheVariants as reason
use Rattle.gn_rules.specs.declared.reply.Reply.{Reply}
use Rattle.gn_rules.specs.declared.reply.Reply.TheVariants as reply
use Rattle.gn_rules.specs.declared.routing.Routing.{Routing}
use Rattle.gn_rules.specs.declared.routing.Routing.TheVariants.{Floods, Back, Pushed, Unnamed}
use Rattle.gn_rules.specs.declared.sends.Sending.{Sending}
use Rattle.gn_rules.specs.Answer.{answer, decision_reply, is_request}
use Rattle.gn_rules.specs.Decision.{Decision, Drop, Local, Flood, Forward, checks, decide, decide_checked, decide_reply, decide_routed}
use Rattle.gn_rules.specs.Flight.{Admission, admission, is_routed}
use Rattle.gn_rules.specs.History.{live, live_connections, sends_of}
use Rattle.gn_rules.specs.Routings.{does_flood, routing_of}
use Rattle.gn_rules.specs.Sending.{fanout, flood_sends, is_ping, own_pong, send}
use Rattle.gn_rules.specs.Servents.{servent_route}
use Rattle.gn_rules.specs.SeenEntries.{entry_of, is_remembered, keeps, seen_entries, source}
use Rattle.gn_rules.proofs.AnswerLemmas.{routed_reply}
use Rattle.gn_paths.specs.Paths.{answered_kind, asked_kind, kept_since, AnswersGoBack, CameFrom, GoesBack, RoutedFrom}
use Rattle.gn_paths.specs.Sends.{IsForward, IsOwnOrOn, LifeFalls}

-- numbers that test as others are others
pub differ : (a b : ℕ) → (a == b) ≡ false → a ≢ b
differ a b e = λ h. grind (arith, common_steps, e, h)

pub below_is : (n m : ℕ) → nat_lt n m ≡ true → n < m
below_is n m e = grind (arith, common_steps, e)

-- the way that a descriptor is passed on, by its routing
abbrev pub IsWay : {A : Type 0} → Config → List (Step A) → Admission → Routing → ℕ → Type 0
IsWay s past a (Back kind) r = ((r == 0) ≡ false) × (source s past (record { kind = kind; id = a.packet.id }) ≡ Some r)
IsWay s past a Pushed r = (is_remembered s past (key_of a.packet) ≡ false) × (servent_route s past (push_servent a.packet.payload) ≡ Some r)
IsWay s past a routing r = ⊥

-- what passing on to r rests on
pub record Passes {A : Type 0} (s : Config) (past : List (Step A)) (a : Admission) (routing : Routing) (r : ℕ) : Type 0 where
  pub alive : live past r ≡ true
  pub other : (r == a.origin) ≡ false
  pub unexpired : is_expired s.numbers.life a.packet ≡ false
  pub way : IsWay s past a routing r

-- what a decision on a descriptor rests on, by its routing
abbrev pub RestsOn : {A : Type 0} → Config → List (Step A) → Admission → Routing → Decision → Type 0
RestsOn s past a routing (Forward r) = Passes s past a routing r
RestsOn s past a routing Flood = (does_flood routing ≡ true) × (is_remembered s past (key_of a.packet) ≡ false)
RestsOn s past a routing Local = does_flood routing ≡ false
RestsOn s past a routing (Drop why) = Unit {0}

checks_rest : {A : Type 0} (s : Config) (past : List (Step A)) (a : Admission) (routing : Routing) (r : ℕ) → IsWay s past a routing r → RestsOn s past a routing (checks s past a r)
checks_rest s past a routing r way =
    elim (live past r) as (λ b. live past r ≡ b → RestsOn s past a routing (cond (not b) (Drop reason.RouteGone) (cond (r == a.origin) (Drop reason.BackToSender) (cond (is_expired s.numbers.life a.packet) (Drop reason.Expired) (Forward r))))) [
      | false ↦ λ e. tt
      | true ↦ λ e. elim (r == a.origin) as (λ b. (r == a.origin) ≡ b → RestsOn s past a routing (cond b (Drop reason.BackToSender) (cond (is_expired s.numbers.life a.packet) (Drop reason.Expired) (Forward r)))) [
        | true ↦ λ f. tt
        | false ↦ λ f. elim (is_expired s.numbers.life a.packet) as (λ b. is_expired s.numbers.life a.packet ≡ b → RestsOn s past a routing (cond b (Drop reason.Expired) (Forward r))) [
          | true ↦ λ g. tt
          | false ↦ λ g. record { alive = e; other = f; unexpired = g; way = way }
        ] refl
      ] refl
    ] refl

reply_rests : {A : Type 0} (s : Config) (past : List (Step A)) (a : Admission) (routing : Routing) (found : Option ℕ) → does_flood routing ≡ false → ((r : ℕ) → (r == 0) ≡ false → found ≡ Some r → IsWay s past a routing r)
    → RestsOn s past a routing (decide_reply s past a found)
reply_rests s past a routing None replies way = tt
reply_rests s past a routing (Some r) replies way =
    elim (r == 0) as (λ b. (r == 0) ≡ b → RestsOn s past a routing (cond b Local (checks s past a r))) [
      | true ↦ λ e. replies
      | false ↦ λ e. checks_rest s past a routing r (way r e refl)
    ] refl

push_rests : {A : Type 0} (s : Config) (past : List (Step A)) (a : Admission) (found : Option ℕ) → servent_route s past (push_servent a.packet.payload) ≡ found → is_remembered s past (key_of a.packet) ≡ false
    → RestsOn s past a Pushed (option_map_or (checks s past a) found (Drop reason.NoRoute))
push_rests s past a None is new = tt
push_rests s past a (Some r) is new = checks_rest s past a Pushed r (new, is)

routed_rests : {A : Type 0} (s : Config) (past : List (Step A)) (a : Admission) (routing : Routing) → RestsOn s past a routing (decide_routed s past a routing)
routed_rests s past a Floods =
    elim (is_remembered s past (key_of a.packet)) as (λ b. is_remembered s past (key_of a.packet) ≡ b → RestsOn s past a Floods (cond b (Drop reason.Duplicate) Flood)) [
      | true ↦ λ e. tt
      | false ↦ λ e. (refl, e)
    ] refl
routed_rests s past a (Back kind) = reply_rests s past a (Back kind) (source s past (record { kind = kind; id = a.packet.id })) refl (λ r other found. (other, found))
routed_rests s past a Pushed =
    let to = push_servent a.packet.payload in
    elim (is_remembered s past (key_of a.packet)) as (λ b. is_remembered s past (key_of a.packet) ≡ b → RestsOn s past a Pushed (cond b (Drop reason.Duplicate) (cond (is_same_id to s.own.servent) Local (option_map_or (checks s past a) (servent_route s past to) (Drop reason.NoRoute))))) [
      | true ↦ λ e. tt
      | false ↦ λ e. elim (is_same_id to s.own.servent) as (λ b. RestsOn s past a Pushed (cond b Local (option_map_or (checks s past a) (servent_route s past to) (Drop reason.NoRoute)))) [
        | true ↦ refl
        | false ↦ push_rests s past a (servent_route s past to) refl e
      ]
    ] refl
routed_rests s past a Unnamed = tt

checked_rests : {A : Type 0} (s : Config) (past : List (Step A)) (a : Admission) (verdict : Verdict) → RestsOn s past a (routing_of a.packet.kind) (decide_checked s past a verdict)
checked_rests s past a UnknownKind = tt
checked_rests s past a Malformed = tt
checked_rests s past a Sound = routed_rests s past a (routing_of a.packet.kind)

pub rests : {A : Type 0} (s : Config) (past : List (Step A)) (a : Admission) → RestsOn s past a (routing_of a.packet.kind) (decide s past a)
rests s past a = checked_rests s past a (verdict_of a.packet)

pub in_flight_is : (routed : Bool) (admitted : Option Admission) (a : Admission) → cond routed None admitted ≡ Some a → admitted ≡ Some a
in_flight_is true admitted a e = absurd (cc)
in_flight_is false admitted a e = e

-- the answer to a Route of what was admitted
pub routed_as : {A : Type 0} (s : Config) (past : List (Step A)) (t : ℕ) (reply : Reply A) (a : Admission) → answer s past (Route t) ≡ Ok reply → admission past t ≡ Some a
    → reply ≡ decision_reply s past a (decide s past a)
routed_as s past t reply a e found =
    let routed = routed_reply s past reply t e in
    let is = in_flight_is (is_routed past t) (admission past t) routed.admitted routed.found_is in
    let same : routed.admitted ≡ a = same_Some routed.admitted a (sym is ∙ found) in
    routed.reply_is ∙ ap (λ b. decision_reply s past b (decide s past b)) same

-- an entry that a Route made, of what c had brought
pub record RouteEntry {A : Type 0} (earlier : List (Step A)) (event : Event A) (reply : Reply A) (key : Key) (c : ℕ) : Type 0 where
  pub ticket : ℕ
  pub packet : Packet
  pub routes : event ≡ Route ticket
  pub admitted : admission earlier ticket ≡ Some (record { origin = c; packet = packet })
  pub same : key_of packet ≡ key
  pub kept : keeps packet.kind reply ≡ true

pub route_entry : {A : Type 0} (earlier : List (Step A)) (t : ℕ) (reply : Reply A) (key : Key) (c : ℕ) → entry_of earlier (Route t) reply ≡ Some (key, c) → RouteEntry earlier (Route t) reply key c
route_entry earlier t reply key c e =
    option_and_then_some (λ a. if keeps a.packet.kind reply then Some (key_of a.packet, a.origin) else None) (admission earlier t) (key, c) e (λ a found kept.
    let parts = cond_some (keeps a.packet.kind reply) (key_of a.packet, a.origin) (key, c) kept in
    let from : a.origin ≡ c = ap (λ (p : Key × ℕ). p.1) parts.1 in
    record {
      ticket = t;
      packet = a.packet;
      routes = refl;
      admitted = found ∙ ap (λ (o : ℕ). Some (record { origin = o; packet = a.packet })) from;
      same = ap (λ (p : Key × ℕ). p.0) parts.1;
      kept = parts.0;
    })

-- an entry that isn't the local servent's own is of a Route
entry_routes : {A : Type 0} (earlier : List (Step A)) (event : Event A) (reply : Reply A) (key : Key) (c : ℕ) → entry_of earlier event reply ≡ Some (key, c) → (c == 0) ≡ false → RouteEntry earlier event reply key c
entry_routes earlier (Route t) reply key c e other = route_entry earlier t reply key c e
entry_routes earlier (Originate d) (reply.Sent sends) key c e other =
    let zero_is : c ≡ 0 = sym (ap (λ (p : Key × ℕ). p.1) (same_Some (key_of d, 0) (key, c) e)) in
    absurd (differ c 0 other zero_is)
entry_routes earlier (Originate d) reply key c e other = absurd (cc)
entry_routes earlier event reply key c e other = absurd (cc)

-- one step more
abbrev pub further : {A : Type 0} (step : Step A) (past : List (Step A)) (c : ℕ) → RoutedFrom past c → RoutedFrom (step ∷ past) c
further step past c from = record {
  later = step ∷ from.later;
  step = from.step;
  earlier = from.earlier;
  ticket = from.ticket;
  packet = from.packet;
  stands = ap (λ xs. step ∷ xs) from.stands;
  routes = from.routes;
  admitted = from.admitted;
}

-- the entries since, with one step more
since_more : {A : Type 0} (step : Step A) (past : List (Step A)) (c : ℕ) (from : RoutedFrom past c) (entry : Option (Key × ℕ)) → entry_of past step.event step.reply ≡ entry
    → kept_since (step ∷ from.later) (from.step ∷ from.earlier) ≡ option_to_list entry ++ kept_since from.later (from.step ∷ from.earlier)
since_more step past c from entry is =
    ap (λ o. option_to_list o ++ kept_since from.later (from.step ∷ from.earlier)) (ap (λ xs. entry_of xs step.event step.reply) (sym from.stands) ∙ is)

-- one step more that keeps no entry
came_further : {A : Type 0} (n : ℕ) (step : Step A) (past : List (Step A)) (key : Key) (c : ℕ) → entry_of past step.event step.reply ≡ None → CameFrom n past key c → CameFrom n (step ∷ past) key c
came_further {A} n step past key c none came =
    let since = since_more step past c came.request None none in
    record {
      request = further step past c came.request;
      same = came.same;
      kept = came.kept;
      few = subst (λ es. length es < n) (sym since) came.few;
      newest = ap (list_any (λ entry. is_same_key key entry.0)) since ∙ came.newest;
    }

-- one step more that keeps an entry of another key
came_after : {A : Type 0} (n : ℕ) (step : Step A) (past : List (Step A)) (key other : Key) (c from : ℕ) → entry_of past step.event step.reply ≡ Some (other, from) → is_same_key key other ≡ false
    → CameFrom n past key c → CameFrom (suc n) (step ∷ past) key c
came_after {A} n step past key other c from some apart came =
    let since = since_more step past c came.request (Some (other, from)) some in
    record {
      request = further step past c came.request;
      same = came.same;
      kept = came.kept;
      few = omega (arith, ap length since, came.few);
      newest = ap (list_any (λ entry. is_same_key key entry.0)) since ∙ rw apart came.newest;
    }

-- the step that kept it is the newest
came_now : {A : Type 0} (n : ℕ) (step : Step A) (past : List (Step A)) (key : Key) (c : ℕ) → RouteEntry past step.event step.reply key c → CameFrom (suc n) (step ∷ past) key c
came_now n step past key c entry = record {
  request = record {
    later = [];
    step = step;
    earlier = past;
    ticket = entry.ticket;
    packet = entry.packet;
    stands = refl;
    routes = entry.routes;
    admitted = entry.admitted;
  };
  same = entry.same;
  kept = entry.kept;
  few = omega arith;
  newest = refl;
}

no_entry : (t : Key → Bool) (n c : ℕ) → lookup t (take n []) ≡ Some c → ⊥
no_entry t zero c e = cc
no_entry t (suc n) c e = cc

-- a source that isn't the local servent is where the last request came from
pub came_from : {A : Type 0} (n : ℕ) (past : List (Step A)) (key : Key) (c : ℕ) → (c == 0) ≡ false → lookup (is_same_key key) (take n (seen_entries past)) ≡ Some c → CameFrom n past key c
came_from n [] key c other e = absurd (no_entry (is_same_key key) n c e)
came_from {A} n (step ∷ past) key c other e =
    elim (entry_of past step.event step.reply) as (λ o. entry_of past step.event step.reply ≡ o → lookup (is_same_key key) (take n (option_to_list o ++ seen_entries past)) ≡ Some c → CameFrom n (step ∷ past) key c) [
      | None ↦ λ h f. came_further n step past key c h (came_from n past key c other f)
      | Some entry ↦ λ h f. at n entry (λ m. came_from m past key c other) h f
    ] refl e
  where
    at : (m : ℕ) (entry : Key × ℕ) → ((k : ℕ) → lookup (is_same_key key) (take k (seen_entries past)) ≡ Some c → CameFrom k past key c) → entry_of past step.event step.reply ≡ Some entry → lookup (is_same_key key) (take m (entry ∷ seen_entries past)) ≡ Some c → CameFrom m (step ∷ past) key c
    at zero entry before h f = absurd (cc)
    at (suc m) entry before h f =
        elim (is_same_key key entry.0) as (λ b. is_same_key key entry.0 ≡ b → cond b (Some entry.1) (lookup (is_same_key key) (take m (seen_entries past))) ≡ Some c → CameFrom (suc m) (step ∷ past) key c) [
          | true ↦ λ same g.
              let key_is : key ≡ entry.0 = (same_is_equal.keys key entry.0).0 same in
              let from_is : entry.1 ≡ c = same_Some entry.1 c g in
              let is : entry_of past step.event step.reply ≡ Some (key, c) = h ∙ ap (λ (k : Key). Some (k, entry.1)) (sym key_is) ∙ ap (λ (d : ℕ). Some (key, d)) from_is in
              came_now m step past key c (entry_routes past step.event step.reply key c is other)
          | false ↦ λ apart g. came_after m step past key entry.0 c entry.1 h apart (before m g)
        ] refl f

-- a request answers none
pub not_asking : (routing : Routing) (kind : Kind) → does_flood routing ≡ true → asked_kind routing ≡ Some kind → ⊥
not_asking Floods kind asks answers = cc
not_asking routing kind asks answers = cc

-- an answer's way is that of its request
pub way_back : {A : Type 0} (s : Config) (past : List (Step A)) (a : Admission) (routing : Routing) (kind : Kind) (r : ℕ) → asked_kind routing ≡ Some kind → IsWay s past a routing r
    → ((r == 0) ≡ false) × (source s past (record { kind = kind; id = a.packet.id }) ≡ Some r)
way_back s past a (Back asked) kind r answers way =
    let is : asked ≡ kind = same_Some asked kind answers in
    (way.0, ap (λ (k : Kind). source s past (record { kind = k; id = a.packet.id })) (sym is) ∙ way.1)
way_back s past a routing kind r answers way = absurd (cc)

sent_back : {A : Type 0} (s : Config) (past : List (Step A)) (a : Admission) (kind : Kind) → answered_kind a.packet.kind ≡ Some kind → (decision : Decision) → RestsOn s past a (routing_of a.packet.kind) decision
    → (sends_of (decision_reply s past a decision) ≡ []) ⊎ GoesBack s past a (record { kind = kind; id = a.packet.id }) (sends_of (decision_reply s past a decision))
sent_back s past a kind answers (Drop why) rest = inl refl
sent_back s past a kind answers Local rest = inl refl
sent_back s past a kind answers Flood rest = absurd (not_asking (routing_of a.packet.kind) kind rest.0 answers)
sent_back s past a kind answers (Forward r) rest =
    let way = way_back s past a (routing_of a.packet.kind) kind r answers rest.way in
    inr (record {
      back = record { to = r; once = refl; alive = rest.alive; other = differ r a.origin rest.other; unexpired = rest.unexpired };
      asked = came_from s.numbers.seen past (record { kind = kind; id = a.packet.id }) r way.0 way.1;
    })

pub answers_go_back : (A : Type 0) → AnswersGoBack A
answers_go_back A s past t reply a kind e found answers =
    subst (λ (r : Reply A). (sends_of r ≡ []) ⊎ GoesBack s past a (record { kind = kind; id = a.packet.id }) (sends_of r)) (sym (routed_as s past t reply a e found))
    (sent_back s past a kind answers (decide s past a) (rests s past a))

-- what is left of a life is no more than the TTL
left_most : (life : ℕ) (d : Packet) → life_left life d ≤ d.ttl
left_most life d = elim (life == 0) as (λ b. cond b d.ttl (min d.ttl (life - d.hops)) ≤ d.ttl) [ true ↦ omega arith | false ↦ omega arith ]

left_some : (b : Bool) (n : ℕ) → (nat_le n 1 || b) ≡ false → 2 ≤ n
left_some b n e = grind (arith, common_steps, e)

-- and where there is a limit, no more than the Hops leave of it
left_within : (life : ℕ) (d : Packet) → 0 < life → life_left life d ≤ life - d.hops
left_within life d some =
    elim (life == 0) as (λ b. (life == 0) ≡ b → cond b d.ttl (min d.ttl (life - d.hops)) ≤ life - d.hops) [
      | true ↦ λ e. grind (arith, common_steps, e, some)
      | false ↦ λ e. omega arith
    ] refl

pub is_forward : (life : ℕ) (d : Packet) → is_expired life d ≡ false → IsForward life d (forward_of life d)
is_forward life d e =
    let most = left_most life d in
    let least = left_some (d.hops == 255) (life_left life d) e in
    record {
      id = refl;
      kind = refl;
      payload = refl;
      hops = refl;
      ttl_falls = omega (arith, most, least);
      ttl_left = omega (arith, most, least);
      rises_not = omega (arith, most, least);
      limited = λ some. omega (arith, least, left_within life d some);
    }

pub all_append : {X : Type 0} (P : X → Type 0) (xs ys : List X) → AllByRecursion P xs → AllByRecursion P ys → AllByRecursion P (xs ++ ys)
all_append P [] ys first second = second
all_append P (x ∷ xs) ys first second = (first.0, all_append P xs ys first.1 second)

-- each send of a fan-out is of this packet to another connection
pub fanout_all : {A : Type 0} (P : Sending A → Type 0) (s : Config) (past : List (Step A)) (from : ℕ) (p : Packet) → ((c : ℕ) → c ≢ from → P (send s past p c)) → AllByRecursion P (fanout s past from p)
fanout_all {A} P s past from p each = over (live_connections past)
  where
    over : (cs : List ℕ) → AllByRecursion P (map (send s past p) (filter (λ d. not (d == from)) cs))
    over [] = tt
    over (c ∷ cs) =
        elim (c == from) as (λ b. (c == from) ≡ b → AllByRecursion P (map (send s past p) (cond (not b) (c ∷ filter (λ d. not (d == from)) cs) (filter (λ d. not (d == from)) cs)))) [
          | true ↦ λ e. over cs
          | false ↦ λ e. (each c (differ c from e), over cs)
        ] refl

ping_is : (k : Kind) → is_ping k ≡ true → k ≡ Ping
ping_is Ping e = refl
ping_is k e = absurd (cc)

-- each send of a kept request is the own Pong to the connection that admitted a Ping, or the forward to another one
pub flood_all : {A : Type 0} (P : Sending A → Type 0) (s : Config) (past : List (Step A)) (a : Admission)
    → (a.packet.kind ≡ Ping → P (send s past (own_pong s.own a.packet) a.origin))
    → ((c : ℕ) → c ≢ a.origin → is_expired s.numbers.life a.packet ≡ false → P (send s past (forward_of s.numbers.life a.packet) c))
    → AllByRecursion P (flood_sends s past a)
flood_all {A} P s past a pong each = all_append P _ _ own others
  where
    pongs : (ping alive : Bool) → is_ping a.packet.kind ≡ ping → AllByRecursion P (if ping && alive then send s past (own_pong s.own a.packet) a.origin ∷ [] else [])
    pongs true true e = (pong (ping_is a.packet.kind e), tt)
    pongs true false e = tt
    pongs false alive e = tt

    own : AllByRecursion P (if is_ping a.packet.kind && live past a.origin then send s past (own_pong s.own a.packet) a.origin ∷ [] else [])
    own = pongs (is_ping a.packet.kind) (live past a.origin) refl

    forwards : (expired : Bool) → is_expired s.numbers.life a.packet ≡ expired → AllByRecursion P (if expired then [] else fanout s past a.origin (forward_of s.numbers.life a.packet))
    forwards true e = tt
    forwards false e = fanout_all P s past a.origin (forward_of s.numbers.life a.packet) (λ c other. each c other e)

    others : AllByRecursion P (if is_expired s.numbers.life a.packet then [] else fanout s past a.origin (forward_of s.numbers.life a.packet))
    others = forwards (is_expired s.numbers.life a.packet) refl

-- each send of a decision is the own Pong, or the forward to another connection
pub decision_all : {A : Type 0} (P : Sending A → Type 0) (s : Config) (past : List (Step A)) (a : Admission) (decision : Decision) → RestsOn s past a (routing_of a.packet.kind) decision
    → (a.packet.kind ≡ Ping → P (send s past (own_pong s.own a.packet) a.origin))
    → ((c : ℕ) → is_request a.packet.kind ≡ true → c ≢ a.origin → is_expired s.numbers.life a.packet ≡ false → P (send s past (forward_of s.numbers.life a.packet) c))
    → ((r : ℕ) → Passes s past a (routing_of a.packet.kind) r → P (send s past (forward_of s.numbers.life a.packet) r))
    → AllByRecursion P (sends_of (decision_reply s past a decision))
decision_all P s past a (Drop why) rest pong each on = tt
decision_all P s past a Local rest pong each on = tt
decision_all P s past a Flood rest pong each on = flood_all P s past a pong (λ c other unexpired. each c rest.0 other unexpired)
decision_all P s past a (Forward r) rest pong each on = (on r rest, tt)

pub life_falls : (A : Type 0) → LifeFalls A
life_falls A s past t reply a e found =
    subst (λ (r : Reply A). AllByRecursion (λ x. IsOwnOrOn s a x) (sends_of r)) (sym (routed_as s past t reply a e found))
    (decision_all (λ x. IsOwnOrOn s a x) s past a (decide s past a) (rests s past a)
    (λ ping. inl (ping, refl, refl))
    (λ c asks other unexpired. inr (other, is_forward s.numbers.life a.packet unexpired))
    (λ r passes. inr (differ r a.origin passes.other, is_forward s.numbers.life a.packet passes.unexpired)))
