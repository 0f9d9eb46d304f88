-- What a request sends to each connection.
use Rattle.std.proofs.Common.{◌≡◌, ◌≤◌, ◌+◌, ◌==◌, ℕ, zero, suc, Bool, true, false, ◌&&◌, ◌||◌, not, cond, if◌then◌else◌, List, [], ◌∷◌, ◌++◌, filter, map, Option, Some, None, refl, sym, ap, ◌∙◌, arith}
use Rattle.std.specs.List.{count_by, list_any}
use Rattle.std.specs.Option.{option_to_list}
use Rattle.std.proofs.lemmas.List.{append-nil, map-append}
use Rattle.std.proofs.lemmas.List.Elements.{filter-append}
use Rattle.std.proofs.lemmas.List.Sums.{sum_by-append}
use Rattle.std.proofs.lemmas.Map.Views.{any-filter_same, exact_unsigned_eq}
use Rattle.gn_wire.specs.declared.kind.Kind.{Kind}
use Rattle.gn_wire.specs.declared.kind.Kind.TheVariants.{Unknown}
use Rattle.gn_wire.specs.Keys.{key_of}
use Rattle.gn_wire.specs.Packet.{forward_of, is_expired, Packet}
use Rattle.gn_payload.specs.declared.checked.Verdict.TheVariants.{Sound, Malformed, UnknownKind}
use Rattle.gn_payload.specs.Reading.{has_reading, is_known}
use Rattle.gn_rules.specs.declared.config.Config.{Config}
use Rattle.gn_rules.specs.declared.receipt.Step.{Step}
use Rattle.gn_rules.specs.declared.reply.Reply.{Reply}
use Rattle.gn_rules.specs.declared.reply.DropReason.TheVariants as reason
use Rattle.gn_rules.specs.declared.routing.Routing.{Routing}
use Rattle.gn_rules.specs.declared.routing.Routing.TheVariants.{Floods}
use Rattle.gn_rules.specs.declared.sends.Sending.{Sending}
use Rattle.gn_rules.specs.Answer.{decision_reply, is_request, IsLegal}
use Rattle.gn_rules.specs.Decision.{Drop, Flood, decide, decide_checked, decide_routed}
use Rattle.gn_rules.specs.Flight.{Admission}
use Rattle.gn_rules.specs.History.{connected_of, connections, is_at, live, live_connections, sends_of}
use Rattle.gn_rules.specs.Routings.{does_flood, routing_of}
use Rattle.gn_rules.specs.Sending.{fanout, flood_sends, is_ping, own_pong, send}
use Rattle.gn_rules.specs.SeenEntries.{is_remembered}
use Rattle.gn_rules.proofs.StepLemmas.{is_listed}
use Rattle.gn_laws.specs.Connections.{connects}
use Rattle.gn_paths.specs.Sends.{sent_to, spread_to, RequestsSpread}
use Rattle.gn_laws.proofs.ConnectionLemmas.{connections_count}
use Rattle.gn_laws.proofs.CountLemmas.{tally, count-cons, count_none, count_some, same_in_both}
use Rattle.gn_paths.proofs.PathLemmas.{routed_as}

-- how often c is a connection
connected_times : {A : Type 0} (past : List (Step A)) (c : ℕ) → count_by (λ d. d == c) (connections past) ≡ connects past c
connected_times [] c = refl
connected_times {A} (step ∷ past) c =
    let more = count-cons (λ (x : Step A). is_at c (connected_of x.reply)) step past in
    let both = sum_by-append (λ d. cond (d == c) 1 0) (connections past) (option_to_list (connected_of step.reply)) in
    omega (arith, more, both, connected_times past c, one (connected_of step.reply))
  where
    one : (o : Option ℕ) → count_by (λ d. d == c) (option_to_list o) ≡ tally (is_at c o)
    one None = refl
    one (Some d) = omega arith ∙ ap tally (same_in_both d c)

-- a filter leaves no more
count_filter : {X : Type 0} (p q : X → Bool) (xs : List X) → count_by p (filter q xs) ≤ count_by p xs
count_filter p q [] = omega arith
count_filter p q (x ∷ xs) =
    let more = count-cons p x xs in
    let rest = count_filter p q xs in
    elim (q x) as (λ b. count_by p (cond b (x ∷ filter q xs) (filter q xs)) ≤ count_by p (x ∷ xs)) [
      | true ↦ omega (arith, more, rest, count-cons p x (filter q xs))
      | false ↦ omega (arith, more, rest)
    ]

-- the connections of a fan-out
abbrev aims : {A : Type 0} → List (Step A) → ℕ → List ℕ
aims past from = filter (λ d. not (d == from)) (live_connections past)

-- each of them stands there once
aims_once : {A : Type 0} (s : Config) (past : List (Step A)) (from c : ℕ) → IsLegal s past → count_by (λ d. d == c) (aims past from) ≤ 1
aims_once {A} s past from c legal =
    let once = (connections_count A s past legal).once c in
    omega (arith, once, connected_times past c, count_filter (λ d. d == c) (live past) (connections past), count_filter (λ d. d == c) (λ d. not (d == from)) (live_connections past))

any_turned : (c : ℕ) (xs : List ℕ) → list_any (λ d. d == c) xs ≡ list_any (λ d. c == d) xs
any_turned c [] = refl
any_turned c (x ∷ xs) = ap (λ b. b || list_any (λ d. d == c) xs) (same_in_both x c) ∙ ap (λ b. (c == x) || b) (any_turned c xs)

-- c is aimed at where it is live and another
aims_at : {A : Type 0} (past : List (Step A)) (from c : ℕ) → list_any (λ d. d == c) (aims past from) ≡ (not (c == from) && live past c)
aims_at past from c =
    any_turned c (aims past from)
    ∙ any-filter_same (λ d. c == d) (λ d. not (d == from)) (not (c == from)) (λ d h. ap (λ e. not (e == from)) (sym (exact_unsigned_eq c d h))) (live_connections past)
    ∙ ap (λ b. not (c == from) && b) (is_listed past c)

-- a packet so many times
abbrev times : ℕ → Packet → List Packet
times zero p = []
times (suc n) p = p ∷ times n p

-- c is sent a packet as often as it stands among those to whom it is sent
sent_times : {A : Type 0} (s : Config) (past : List (Step A)) (p : Packet) (c : ℕ) (cs : List ℕ) → sent_to c (map (send s past p) cs) ≡ times (count_by (λ d. d == c) cs) p
sent_times s past p c [] = refl
sent_times {A} s past p c (d ∷ cs) =
    let rest = sent_times s past p c cs in
    let more = count-cons (λ d. d == c) d cs in
    elim (d == c) as (λ b. (d == c) ≡ b → map (λ (x : Sending A). x.packet) (cond b (send s past p d ∷ filter (λ x. x.to == c) (map (send s past p) cs)) (filter (λ x. x.to == c) (map (send s past p) cs))) ≡ times (count_by (λ d. d == c) (d ∷ cs)) p) [
      | true ↦ λ e. ap (λ ps. p ∷ ps) rest ∙ ap (λ n. times n p) (one_more (count_by (λ d. d == c) cs) (count_by (λ d. d == c) (d ∷ cs)) (omega (arith, more, ap tally e)))
      | false ↦ λ e. rest ∙ ap (λ n. times n p) (none_more (count_by (λ d. d == c) cs) (count_by (λ d. d == c) (d ∷ cs)) (omega (arith, more, ap tally e)))
    ] refl
  where
    one_more : (n m : ℕ) → m ≡ n + 1 → suc n ≡ m
    one_more n m h = omega (arith, h)

    none_more : (n m : ℕ) → m ≡ n → n ≡ m
    none_more n m h = sym h

-- what a fan-out sends to c
pub fanout_sends : {A : Type 0} (s : Config) (past : List (Step A)) (from c : ℕ) (p : Packet) → IsLegal s past
    → sent_to c (fanout s past from p) ≡ (if not (c == from) && live past c then p ∷ [] else [])
fanout_sends {A} s past from c p legal =
    sent_times s past p c (aims past from) ∙ each (not (c == from) && live past c) (aims_at past from c)
  where
    each : (b : Bool) → list_any (λ d. d == c) (aims past from) ≡ b → times (count_by (λ d. d == c) (aims past from)) p ≡ cond b (p ∷ []) []
    each true e =
        let some = count_some (λ d. d == c) (aims past from) e in
        let once = aims_once s past from c legal in
        let one : count_by (λ d. d == c) (aims past from) ≡ 1 = omega (arith, some, once) in
        ap (λ n. times n p) one
    each false e = ap (λ n. times n p) (count_none (λ d. d == c) (aims past from) e)

sent_append : {A : Type 0} (c : ℕ) (xs ys : List (Sending A)) → sent_to c (xs ++ ys) ≡ sent_to c xs ++ sent_to c ys
sent_append c xs ys =
    ap (map (λ x. x.packet)) (filter-append (λ x. x.to == c) xs ys)
    ∙ map-append (λ x. x.packet) (filter (λ x. x.to == c) xs) (filter (λ x. x.to == c) ys)

-- what the first part of a flood sends to c: the own Pong to the connection that admitted a Ping
own_sends : {A : Type 0} (s : Config) (past : List (Step A)) (p : Packet) (pongs here : Bool) (origin c : ℕ) → (origin == c) ≡ here
    → sent_to c (if pongs then send s past p origin ∷ [] else []) ≡ (if here then (if pongs then p ∷ [] else []) else [])
own_sends s past p false true origin c e = refl
own_sends s past p false false origin c e = refl
own_sends {A} s past p true here origin c e = ap (λ b. map (λ (x : Sending A). x.packet) (cond b (send s past p origin ∷ []) [])) e ∙ both here
  where
    both : (b : Bool) → map (λ (x : Sending A). x.packet) (cond b (send s past p origin ∷ []) []) ≡ (if b then p ∷ [] else [])
    both true = refl
    both false = refl

-- what its second part sends to c: the forward to another live one, unless it is expired
other_sends : {A : Type 0} (s : Config) (past : List (Step A)) (p : Packet) (expired : Bool) (from c : ℕ) → IsLegal s past
    → sent_to c (if expired then [] else fanout s past from p) ≡ (if not (c == from) && live past c && not expired then p ∷ [] else [])
other_sends s past p true from c legal = none (not (c == from) && live past c)
  where
    none : (b : Bool) → [] ≡ (if b && not true then p ∷ [] else [])
    none true = refl
    none false = refl
other_sends s past p false from c legal = fanout_sends s past from c p legal ∙ same (not (c == from) && live past c)
  where
    same : (b : Bool) → (if b then p ∷ [] else []) ≡ (if b && not false then p ∷ [] else [])
    same true = refl
    same false = refl

-- what a flood sends to c
pub flood_spreads : {A : Type 0} (s : Config) (past : List (Step A)) (a : Admission) (c : ℕ) → IsLegal s past → sent_to c (flood_sends s past a) ≡ spread_to s past a c
flood_spreads {A} s past a c legal =
    sent_append c _ _
    ∙ ap (λ ps. ps ++ sent_to c (if is_expired s.numbers.life a.packet then [] else fanout s past a.origin (forward_of s.numbers.life a.packet))) (own_sends s past (own_pong s.own a.packet) (is_ping a.packet.kind && live past a.origin) (c == a.origin) a.origin c (same_in_both a.origin c))
    ∙ ap (λ ps. (if c == a.origin then (if is_ping a.packet.kind && live past a.origin then own_pong s.own a.packet ∷ [] else []) else []) ++ ps) (other_sends s past (forward_of s.numbers.life a.packet) (is_expired s.numbers.life a.packet) a.origin c legal)
    ∙ elim (c == a.origin) as (λ b. (c == a.origin) ≡ b → (if b then (if is_ping a.packet.kind && live past a.origin then own_pong s.own a.packet ∷ [] else []) else []) ++ (if not b && live past c && not (is_expired s.numbers.life a.packet) then forward_of s.numbers.life a.packet ∷ [] else []) ≡ (if b then (if is_ping a.packet.kind && live past c then own_pong s.own a.packet ∷ [] else []) else (if live past c && not (is_expired s.numbers.life a.packet) then forward_of s.numbers.life a.packet ∷ [] else []))) [
      | true ↦ λ e.
          append-nil (if is_ping a.packet.kind && live past a.origin then own_pong s.own a.packet ∷ [] else [])
          ∙ ap (λ d. if is_ping a.packet.kind && live past d then own_pong s.own a.packet ∷ [] else []) (sym (exact_unsigned_eq c a.origin e))
      | false ↦ λ e. refl
    ] refl

-- a request is of a known kind, and floods
request_known : (kind : Kind) → is_request kind ≡ true → is_known kind ≡ true
request_known (Unknown code) asks = absurd (cc)
request_known kind asks = refl

request_floods : (routing : Routing) → does_flood routing ≡ true → routing ≡ Floods
request_floods Floods asks = refl
request_floods routing asks = absurd (cc)

-- what becomes of a request, by whether its payload is as its kind asks and whether its key is remembered
request_decision : {A : Type 0} (s : Config) (past : List (Step A)) (a : Admission) → is_request a.packet.kind ≡ true
    → decide s past a
    ≡ (if has_reading a.packet.kind a.packet.payload then (if is_remembered s past (key_of a.packet) then Drop reason.Duplicate else Flood) else Drop reason.Malformed)
request_decision {A} s past a asks =
    ap (λ b. decide_checked s past a (if b then (if has_reading a.packet.kind a.packet.payload then Sound else Malformed) else UnknownKind)) (request_known a.packet.kind asks)
    ∙ by_reading (has_reading a.packet.kind a.packet.payload)
  where
    by_reading : (b : Bool) → decide_checked s past a (if b then Sound else Malformed)
        ≡ (if b then (if is_remembered s past (key_of a.packet) then Drop reason.Duplicate else Flood) else Drop reason.Malformed)
    by_reading true = ap (decide_routed s past a) (request_floods (routing_of a.packet.kind) asks)
    by_reading false = refl

-- what such a decision sends to c
decision_spreads : {A : Type 0} (s : Config) (past : List (Step A)) (a : Admission) (c : ℕ) → IsLegal s past → (sound remembered : Bool)
    → sent_to c (sends_of (decision_reply s past a (if sound then (if remembered then Drop reason.Duplicate else Flood) else Drop reason.Malformed)))
    ≡ (if sound && not remembered then spread_to s past a c else [])
decision_spreads s past a c legal true true = refl
decision_spreads s past a c legal true false = flood_spreads s past a c legal
decision_spreads s past a c legal false remembered = refl

pub requests_spread : (A : Type 0) → RequestsSpread A
requests_spread A s past t reply a c legal e found asks =
    ap (λ (r : Reply A). sent_to c (sends_of r)) (routed_as s past t reply a e found)
    ∙ ap (λ decision. sent_to c (sends_of (decision_reply s past a decision))) (request_decision s past a asks)
    ∙ decision_spreads s past a c legal (has_reading a.packet.kind a.packet.payload) (is_remembered s past (key_of a.packet))
