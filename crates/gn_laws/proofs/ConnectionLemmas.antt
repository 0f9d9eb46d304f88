-- Connections count up from 1, and one that is closed stays closed.
use Rattle.std.proofs.Common.{◌≡◌, ◌≤◌, ◌+◌, ◌==◌, ℕ, Bool, true, false, ◌&&◌, ◌||◌, not, cond, if◌then◌else◌, nat_lt, List, [], ◌∷◌, ◌++◌, length, filter, Option, Some, None, Ok, ◌⊎◌, inl, inr, refl, sym, ap, ◌∙◌, arith, add-zero, length-append}
use Rattle.std.specs.List.{list_any}
use Rattle.std.specs.Option.{option_map_or, option_to_list}
use Rattle.std.proofs.lemmas.Grind.{common_steps}
use Rattle.std.proofs.lemmas.List.{append-nil}
use Rattle.std.proofs.lemmas.List.Folds.{list_any-append}
use Rattle.std.proofs.lemmas.Map.Views.{exact_unsigned_eq}
use Rattle.gn_wire.specs.Packet.{forward_of, is_expired, Packet}
use Rattle.gn_wire.specs.Keys.{is_same_id, key_of}
use Rattle.gn_payload.specs.declared.checked.Verdict.{Verdict}
use Rattle.gn_payload.specs.declared.checked.Verdict.TheVariants.{Sound, UnknownKind, Malformed}
use Rattle.gn_payload.specs.Fields.{push_servent}
use Rattle.gn_payload.specs.Reading.{verdict_of}
use Rattle.gn_rules.specs.declared.config.Config.{Config}
use Rattle.gn_rules.specs.declared.event.Event.{Event}
use Rattle.gn_rules.specs.declared.event.Event.TheVariants.{Connect, Close, Admit, Route, Take, Originate}
use Rattle.gn_rules.specs.declared.receipt.Step.{Step}
use Rattle.gn_rules.specs.declared.reply.DropReason.TheVariants as reason
use Rattle.gn_rules.specs.declared.reply.Reply.{Reply}
use Rattle.gn_rules.specs.declared.routing.Routing.{Routing}
use Rattle.gn_rules.specs.declared.routing.Routing.TheVariants.{Floods, Back, Pushed, Unnamed}
use Rattle.gn_rules.specs.declared.sends.Sending.{Sending}
use Rattle.gn_rules.specs.Answer.{answer, decision_reply, IsLegal}
use Rattle.gn_rules.specs.Decision.{Decision, Drop, Local, Flood, Forward, checks, decide, decide_checked, decide_reply, decide_routed}
use Rattle.gn_rules.specs.Flight.{Admission}
use Rattle.gn_rules.specs.History.{connected_of, is_at, is_close, is_take, sends_of, connections, live}
use Rattle.gn_rules.specs.Output.{queued, queued_to, takes}
use Rattle.gn_rules.specs.Routings.{routing_of}
use Rattle.gn_rules.specs.Sending.{fanout, flood_sends, is_ping, own_pong, send}
use Rattle.gn_rules.specs.Servents.{servent_route}
use Rattle.gn_rules.specs.SeenEntries.{is_remembered, source}
use Rattle.gn_rules.proofs.LiveLemmas.{connections_counted, connects_next}
use Rattle.gn_rules.proofs.SendLemmas.{fanout_to, queued_append, queued_none}
use Rattle.gn_laws.specs.Connections.{connects, closes, is_closed, NothingSince, ClosedStaysClosed, ConnectionsCount, NothingAfterClose, PacketsGoToLive}
use Rattle.gn_rules.proofs.AnswerLemmas.{answered}
use Rattle.gn_laws.proofs.CountLemmas.{tally, count-cons, count_none}

-- a step that closes a live connection, and connects none
record ClosesLive {A : Type 0} (past : List (Step A)) (event : Event A) (reply : Reply A) : Type 0 where
  connection : ℕ
  closes_it : event ≡ Close connection
  connects_none : connected_of reply ≡ None
  was_live : live past connection ≡ true

-- an answered event closes no connection, or a live one
closes_live : {A : Type 0} (s : Config) (past : List (Step A)) (event : Event A) (reply : Reply A) → answer s past event ≡ Ok reply → ((c : ℕ) → is_close c event ≡ false) ⊎ ClosesLive past event reply
closes_live s past (Close c) reply e =
    let closed = answered s past (Close c) reply e in
    inr (record { connection = c; closes_it = refl; connects_none = ap connected_of closed.1; was_live = closed.0 })
closes_live s past event reply e = inl (λ c. refl)

-- a number was given where it is above 0 and at most the last
given_more : (o : Option ℕ) (c n a : ℕ) → (o ≡ None) ⊎ (o ≡ Some (1 + n)) → a ≡ tally (nat_lt 0 c && nat_lt c (1 + n)) → tally (is_at c o) + a ≡ tally (nat_lt 0 c && nat_lt c (1 + (n + length (option_to_list o))))
given_more None c n a which e = grind (arith, common_steps)
given_more (Some m) c n a (inl none) e = absurd (cc)
given_more (Some m) c n a (inr next) e = let is : m ≡ 1 + n = cc in grind (arith, common_steps)

pub connects_are : {A : Type 0} (s : Config) (past : List (Step A)) (c : ℕ) → IsLegal s past → connects past c ≡ tally (nat_lt 0 c && nat_lt c (1 + length (connections past)))
connects_are s [] c legal = grind (arith, common_steps)
connects_are {A} s (step ∷ past) c legal =
    let more = count-cons (λ (x : Step A). is_at c (connected_of x.reply)) step past in
    let longer = length-append (connections past) (option_to_list (connected_of step.reply)) in
    more
    ∙ given_more (connected_of step.reply) c (length (connections past)) (connects past c) (connects_next s past step.event step.reply legal.0) (connects_are s past c legal.1)
    ∙ ap (λ n. tally (nat_lt 0 c && nat_lt c (1 + n))) (sym longer)

pub connections_count : (A : Type 0) → ConnectionsCount A
connections_count A s past legal = record {
  count = connections_counted s past legal;
  once = λ c. let h = connects_are s past c legal in grind (arith, common_steps, h);
  positive = let h = connects_are s past 0 legal in grind (arith, common_steps, h);
}

-- where c stands in a history: known once it is live or closed, and then not both
record IsPlaced {A : Type 0} (past : List (Step A)) (c : ℕ) : Type 0 where
  live_known : live past c ≡ true → c ≤ length (connections past)
  closed_known : is_closed past c ≡ true → c ≤ length (connections past)
  closed_dead : is_closed past c ≡ true → live past c ≡ false

-- a step that leaves all connections as they are
placed_kept : {A : Type 0} (past : List (Step A)) (step : Step A) (c : ℕ) → is_at c (connected_of step.reply) ≡ false → is_close c step.event ≡ false → IsPlaced past c → IsPlaced (step ∷ past) c
placed_kept past step c no_connect no_close before =
    let longer = length-append (connections past) (option_to_list (connected_of step.reply)) in
    let live_same : live (step ∷ past) c ≡ live past c = rw (no_connect, no_close) refl in
    let closed_same : is_closed (step ∷ past) c ≡ is_closed past c = rw no_close refl in
    record {
      live_known = λ e. omega (arith, longer, before.live_known (sym live_same ∙ e));
      closed_known = λ e. omega (arith, longer, before.closed_known (sym closed_same ∙ e));
      closed_dead = λ e. live_same ∙ before.closed_dead (sym closed_same ∙ e);
    }

-- a step that connects c, which is none of those that were known
placed_new : {A : Type 0} (past : List (Step A)) (step : Step A) (c : ℕ) → c ≡ 1 + length (connections past) → connected_of step.reply ≡ Some (1 + length (connections past)) → is_close c step.event ≡ false → IsPlaced past c → IsPlaced (step ∷ past) c
placed_new past step c is next no_close before =
    let longer = length-append (connections past) (option_to_list (connected_of step.reply)) in
    let one : length (option_to_list (connected_of step.reply)) ≡ 1 = ap (λ o. length (option_to_list o)) next in
    let closed_same : is_closed (step ∷ past) c ≡ is_closed past c = rw no_close refl in
    record {
      live_known = λ e. omega (arith, longer, one, is);
      closed_known = λ e. omega (arith, longer, one, is);
      closed_dead = λ e. absurd (omega (arith, is, before.closed_known (sym closed_same ∙ e)));
    }

-- a step that closes c
placed_closed : {A : Type 0} (past : List (Step A)) (step : Step A) (c : ℕ) → live past c ≡ true → connected_of step.reply ≡ None → is_close c step.event ≡ true → IsPlaced past c → IsPlaced (step ∷ past) c
placed_closed past step c was none closing before =
    let longer = length-append (connections past) (option_to_list (connected_of step.reply)) in
    let dead : live (step ∷ past) c ≡ false = rw (none, closing) refl in
    record {
      live_known = λ e. omega (arith, longer, before.live_known was);
      closed_known = λ e. omega (arith, longer, before.live_known was);
      closed_dead = λ e. dead;
    }

placed : {A : Type 0} (s : Config) (past : List (Step A)) (c : ℕ) → IsLegal s past → IsPlaced past c
placed s [] c legal = record { live_known = λ e. cc; closed_known = λ e. cc; closed_dead = λ e. refl }
placed s (step ∷ past) c legal =
    let before = placed s past c legal.1 in
    elim (closes_live s past step.event step.reply legal.0) as (λ x. IsPlaced (step ∷ past) c) [
      | inl none ↦ elim (is_at c (connected_of step.reply)) as (λ b. is_at c (connected_of step.reply) ≡ b → IsPlaced (step ∷ past) c) [
        | false ↦ λ e. placed_kept past step c e (none c) before
        | true ↦ λ e. elim (connects_next s past step.event step.reply legal.0) as (λ x. IsPlaced (step ∷ past) c) [
          | inl made_none ↦ let never : is_at c (connected_of step.reply) ≡ false = ap (is_at c) made_none in absurd (cc)
          | inr next ↦
              let is : c ≡ 1 + length (connections past) = exact_unsigned_eq c (1 + length (connections past)) (ap (is_at c) (sym next) ∙ e) in
              placed_new past step c is next (none c) before
        ]
      ] refl
      | inr closes ↦ elim (is_close c step.event) as (λ b. is_close c step.event ≡ b → IsPlaced (step ∷ past) c) [
        | false ↦ λ e. placed_kept past step c (ap (is_at c) closes.connects_none) e before
        | true ↦ λ e.
            let is : c ≡ closes.connection = exact_unsigned_eq c closes.connection (ap (is_close c) (sym closes.closes_it) ∙ e) in
            placed_closed past step c (ap (live past) is ∙ closes.was_live) closes.connects_none e before
      ] refl
    ]

-- a Close that was answered is the first of its connection
first_close : {A : Type 0} (s : Config) (past : List (Step A)) (step : Step A) (c : ℕ) → answer s past step.event ≡ Ok step.reply → is_close c step.event ≡ true → live past c ≡ true
first_close s past step c e closing =
    elim (closes_live s past step.event step.reply e) as (λ x. live past c ≡ true) [
      | inl none ↦ let no = none c in absurd (cc)
      | inr closes ↦ ap (live past) (exact_unsigned_eq c closes.connection (ap (is_close c) (sym closes.closes_it) ∙ closing)) ∙ closes.was_live
    ]

closed_once : {A : Type 0} (s : Config) (past : List (Step A)) (c : ℕ) → IsLegal s past → closes past c ≤ 1
closed_once s [] c legal = omega arith
closed_once {A} s (step ∷ past) c legal =
    let more = count-cons (λ (x : Step A). is_close c x.event) step past in
    let before = closed_once s past c legal.1 in
    elim (is_close c step.event) as (λ b. is_close c step.event ≡ b → closes (step ∷ past) c ≤ 1) [
      | false ↦ λ e. omega (arith, more, before, ap tally e)
      | true ↦ λ e.
          let was = first_close s past step c legal.0 e in
          let none : is_closed past c ≡ false = open_still (is_closed past c) ((placed s past c legal.1).closed_dead) was in
          omega (arith, more, ap tally e, count_none (λ (x : Step A). is_close c x.event) past none)
    ] refl
  where
    open_still : (b : Bool) → (b ≡ true → live past c ≡ false) → live past c ≡ true → b ≡ false
    open_still true h was = let no = h refl in cc
    open_still false h was = refl

pub closed_stays_closed : (A : Type 0) → ClosedStaysClosed A
closed_stays_closed A s past c legal = record { once = closed_once s past c legal; closed = (placed s past c legal).closed_dead }

-- none of the live connections is one that isn't live
none_live : {A : Type 0} (past : List (Step A)) (c : ℕ) (p : ℕ → Bool) → live past c ≡ false → (cs : List ℕ) → list_any (λ d. d == c) (filter p (filter (live past) cs)) ≡ false
none_live past c p dead [] = refl
none_live past c p dead (d ∷ cs) =
    let rest = none_live past c p dead cs in
    elim (live past d) as (λ b. live past d ≡ b → list_any (λ d. d == c) (filter p (cond b (d ∷ filter (live past) cs) (filter (live past) cs))) ≡ false) [
      | false ↦ λ e. rest
      | true ↦ λ e. elim (p d) as (λ b. list_any (λ d. d == c) (cond b (d ∷ filter p (filter (live past) cs)) (filter p (filter (live past) cs))) ≡ false) [
        | false ↦ rest
        | true ↦ rw (other d e) rest
      ]
    ] refl
  where
    other : (d : ℕ) → live past d ≡ true → (d == c) ≡ false
    other d e =
        elim (d == c) as (λ b. (d == c) ≡ b → b ≡ false) [
          | false ↦ λ h. refl
          | true ↦ λ h. let is : d ≡ c = exact_unsigned_eq d c h in let same : live past d ≡ live past c = ap (live past) is in cc
        ] refl

fanout_none : {A : Type 0} (s : Config) (past : List (Step A)) (from : ℕ) (p : Packet) (c : ℕ) → live past c ≡ false → queued_to c (fanout s past from p) ≡ []
fanout_none s past from p c dead =
    queued_none c (fanout s past from p) (ap (list_any (λ d. d == c)) (fanout_to s past from p) ∙ none_live past c (λ d. not (d == from)) dead (connections past))

-- one send to a live connection queues nothing to one that isn't
send_none : {A : Type 0} (s : Config) (past : List (Step A)) (p : Packet) (r c : ℕ) → live past r ≡ true → live past c ≡ false → queued_to c (send s past p r ∷ []) ≡ []
send_none s past p r c alive dead =
    elim (r == c) as (λ b. (r == c) ≡ b → queued_to c (send s past p r ∷ []) ≡ []) [
      | false ↦ λ e. queued_none c (send s past p r ∷ []) (rw e refl)
      | true ↦ λ e. let is : r ≡ c = exact_unsigned_eq r c e in let same : live past r ≡ live past c = ap (live past) is in cc
    ] refl

pong_none : {A : Type 0} (s : Config) (past : List (Step A)) (ping alive : Bool) (p : Packet) (r c : ℕ) → live past r ≡ alive → live past c ≡ false
    → queued_to c (if ping && alive then send s past p r ∷ [] else []) ≡ []
pong_none s past true true p r c e dead = send_none s past p r c e dead
pong_none s past true false p r c e dead = refl
pong_none s past false alive p r c e dead = refl

forward_none : {A : Type 0} (s : Config) (past : List (Step A)) (expired : Bool) (from : ℕ) (p : Packet) (c : ℕ) → live past c ≡ false
    → queued_to c (if expired then [] else fanout s past from p) ≡ []
forward_none s past true from p c dead = refl
forward_none s past false from p c dead = fanout_none s past from p c dead

both_none : {A : Type 0} (c : ℕ) (xs ys : List (Sending A)) → queued_to c xs ≡ [] → queued_to c ys ≡ [] → queued_to c (xs ++ ys) ≡ []
both_none c xs ys first second = queued_append c xs ys ∙ ap (λ ps. ps ++ queued_to c ys) first ∙ second

flood_none : {A : Type 0} (s : Config) (past : List (Step A)) (a : Admission) (c : ℕ) → live past c ≡ false → queued_to c (flood_sends s past a) ≡ []
flood_none s past a c dead =
    both_none c _ _ (pong_none s past (is_ping a.packet.kind) (live past a.origin) (own_pong s.own a.packet) a.origin c refl dead)
    (forward_none s past (is_expired s.numbers.life a.packet) a.origin (forward_of s.numbers.life a.packet) c dead)

-- a decision passes a descriptor on to a live connection alone
abbrev AimsLive : {A : Type 0} → List (Step A) → Decision → Type 0
AimsLive past (Forward r) = live past r ≡ true
AimsLive past decision = Unit {0}

aims_either : {A : Type 0} (past : List (Step A)) (b : Bool) (x y : Decision) → AimsLive past x → AimsLive past y → AimsLive past (cond b x y)
aims_either past true x y first second = first
aims_either past false x y first second = second

checks_aim : {A : Type 0} (s : Config) (past : List (Step A)) (a : Admission) (r : ℕ) → AimsLive past (checks s past a r)
checks_aim s past a r =
    elim (live past r) as (λ b. live past r ≡ b → AimsLive past (cond (not b) (Drop reason.RouteGone) (cond (r == a.origin) (Drop reason.BackToSender) (cond (is_expired s.numbers.life a.packet) (Drop reason.Expired) (Forward r))))) [
      | false ↦ λ e. tt
      | true ↦ λ e.
          aims_either past (r == a.origin) (Drop reason.BackToSender) (cond (is_expired s.numbers.life a.packet) (Drop reason.Expired) (Forward r)) tt
          (aims_either past (is_expired s.numbers.life a.packet) (Drop reason.Expired) (Forward r) tt e)
    ] refl

reply_aims : {A : Type 0} (s : Config) (past : List (Step A)) (a : Admission) (found : Option ℕ) → AimsLive past (decide_reply s past a found)
reply_aims s past a None = tt
reply_aims s past a (Some r) = aims_either past (r == 0) Local (checks s past a r) tt (checks_aim s past a r)

push_aims : {A : Type 0} (s : Config) (past : List (Step A)) (a : Admission) (found : Option ℕ) → AimsLive past (option_map_or (checks s past a) found (Drop reason.NoRoute))
push_aims s past a None = tt
push_aims s past a (Some r) = checks_aim s past a r

routed_aims : {A : Type 0} (s : Config) (past : List (Step A)) (a : Admission) (routing : Routing) → AimsLive past (decide_routed s past a routing)
routed_aims s past a Floods = aims_either past (is_remembered s past (key_of a.packet)) (Drop reason.Duplicate) Flood tt tt
routed_aims s past a (Back kind) = reply_aims s past a (source s past (record { kind = kind; id = a.packet.id }))
routed_aims s past a Pushed =
    let to = push_servent a.packet.payload in
    aims_either past (is_remembered s past (key_of a.packet)) (Drop reason.Duplicate) (cond (is_same_id to s.own.servent) Local (option_map_or (checks s past a) (servent_route s past to) (Drop reason.NoRoute))) tt
    (aims_either past (is_same_id to s.own.servent) Local (option_map_or (checks s past a) (servent_route s past to) (Drop reason.NoRoute)) tt (push_aims s past a (servent_route s past to)))
routed_aims s past a Unnamed = tt

checked_aims : {A : Type 0} (s : Config) (past : List (Step A)) (a : Admission) (verdict : Verdict) → AimsLive past (decide_checked s past a verdict)
checked_aims s past a UnknownKind = tt
checked_aims s past a Malformed = tt
checked_aims s past a Sound = routed_aims s past a (routing_of a.packet.kind)

decision_none : {A : Type 0} (s : Config) (past : List (Step A)) (a : Admission) (c : ℕ) → live past c ≡ false → (decision : Decision) → AimsLive past decision → queued_to c (sends_of (decision_reply s past a decision)) ≡ []
decision_none s past a c dead (Drop why) aims = refl
decision_none s past a c dead Local aims = refl
decision_none s past a c dead Flood aims = flood_none s past a c dead
decision_none s past a c dead (Forward r) aims = send_none s past (forward_of s.numbers.life a.packet) r c aims dead

pub sends_none : {A : Type 0} (s : Config) (past : List (Step A)) (event : Event A) (reply : Reply A) (c : ℕ) → answer s past event ≡ Ok reply → live past c ≡ false → queued_to c (sends_of reply) ≡ []
sends_none {A} s past Connect reply c e dead =
    elim (answered s past Connect reply e) as (λ x. queued_to c (sends_of reply) ≡ []) [
      | inl is ↦ ap (λ (r : Reply A). queued_to c (sends_of r)) is
      | inr is ↦ ap (λ (r : Reply A). queued_to c (sends_of r)) is
    ]
sends_none {A} s past (Close d) reply c e dead = ap (λ (r : Reply A). queued_to c (sends_of r)) (answered s past (Close d) reply e).1
sends_none {A} s past (Admit d packet) reply c e dead =
    elim ((answered s past (Admit d packet) reply e).1) as (λ x. queued_to c (sends_of reply) ≡ []) [
      | inl is ↦ ap (λ (r : Reply A). queued_to c (sends_of r)) is
      | inr (inl is) ↦ ap (λ (r : Reply A). queued_to c (sends_of r)) is
      | inr (inr is) ↦ ap (λ (r : Reply A). queued_to c (sends_of r)) is
    ]
sends_none {A} s past (Route t) reply c e dead =
    let routed = answered s past (Route t) reply e in
    ap (λ (r : Reply A). queued_to c (sends_of r)) routed.reply_is
    ∙ decision_none s past routed.admitted c dead (decide s past routed.admitted) (checked_aims s past routed.admitted (verdict_of routed.admitted.packet))
sends_none {A} s past (Take d) reply c e dead = ap (λ (r : Reply A). queued_to c (sends_of r)) (answered s past (Take d) reply e).1.reply_is
sends_none {A} s past (Originate d) reply c e dead = ap (λ (r : Reply A). queued_to c (sends_of r)) (answered s past (Originate d) reply e) ∙ fanout_none s past 0 d c dead

pub packets_go_to_live : (A : Type 0) → PacketsGoToLive A
packets_go_to_live A s past event reply c e dead = sends_none s past event reply c e dead

-- an answered take is from a live connection
pub take_live : {A : Type 0} (s : Config) (past : List (Step A)) (event : Event A) (reply : Reply A) (c : ℕ) → answer s past event ≡ Ok reply → live past c ≡ false → is_take c event ≡ false
take_live s past (Take d) reply c e dead =
    let alive = (answered s past (Take d) reply e).0 in
    elim (c == d) as (λ b. (c == d) ≡ b → b ≡ false) [
      | false ↦ λ h. refl
      | true ↦ λ h. let same : live past c ≡ live past d = ap (live past) (exact_unsigned_eq c d h) in cc
    ] refl
take_live s past event reply c e dead = refl

-- what a Close sends: nothing
pub close_sends : {A : Type 0} (s : Config) (past : List (Step A)) (event : Event A) (reply : Reply A) (c : ℕ) → answer s past event ≡ Ok reply → is_close c event ≡ true → (sends_of reply ≡ []) × (is_take c event ≡ false)
close_sends s past (Close d) reply c e closing = (ap sends_of (answered s past (Close d) reply e).1, refl)
close_sends s past event reply c e closing = absurd (cc)

-- one step that queues nothing to c and takes nothing from it
since_more : {A : Type 0} (step : Step A) (past earlier : List (Step A)) (c : ℕ) → queued_to c (sends_of step.reply) ≡ [] → is_take c step.event ≡ false → NothingSince past earlier c → NothingSince (step ∷ past) earlier c
since_more step past earlier c none no_take before = record {
  queued_before = ap (λ ps. queued past c ++ ps) none ∙ append-nil (queued past c) ∙ before.queued_before;
  takes_before = rw no_take (add-zero (takes past c) ∙ before.takes_before);
}

pub nothing_after_close : (A : Type 0) → NothingAfterClose A
nothing_after_close A s [] step earlier c legal closing =
    let sends = close_sends s earlier step.event step.reply c legal.0 closing in
    since_more step earlier earlier c (ap (queued_to c) sends.0) sends.1 (record { queued_before = refl; takes_before = refl })
nothing_after_close A s (last ∷ later) step earlier c legal closing =
    let past : List (Step A) = later ++ step ∷ earlier in
    let was_closed : is_closed past c ≡ true =
    list_any-append (λ (x : Step A). is_close c x.event) later (step ∷ earlier) ∙ rw closing (or_true (list_any (λ (x : Step A). is_close c x.event) later)) in
    let dead : live past c ≡ false = (placed s past c legal.1).closed_dead was_closed in
    since_more last past earlier c (sends_none s past last.event last.reply c legal.0 dead) (take_live s past last.event last.reply c legal.0 dead)
    (nothing_after_close A s later step earlier c legal.1 closing)
  where
    or_true : (b : Bool) → (b || true) ≡ true
    or_true true = refl
    or_true false = refl
