-- The tables can do what an event with its reply does to them.
use Rattle.std.proofs.Common.{◌≡◌, ℕ, ◌+◌, ◌<◌, ◌≤◌, ◌==◌, ◌^◌, Bool, true, false, cond, List, length, is_some, not, nat_le, ◌&&◌, Option, Some, None, Result, Ok, refl, sym, ap, ◌∙◌, subst, arith}
use Rattle.std.specs.List.{All}
use Rattle.std.specs.Map.{lookup}
use Rattle.std.specs.Option.{option_map}
use Rattle.std.specs.FinMap as fin
use Rattle.std.proofs.lemmas.List.Elements.{All-filter, All-map}
use Rattle.gn_wire.specs.declared.key.Key.{Key}
use Rattle.gn_wire.specs.Keys.{is_same_key, key_of}
use Rattle.gn_wire.specs.Packet.{Packet}
use Rattle.gn_rules.specs.declared.config.Config.{Config}
use Rattle.gn_rules.specs.declared.event.Event.{Event}
use Rattle.gn_rules.specs.declared.event.Event.TheVariants.{Connect, Close, Admit, Route, Take, Originate}
use Rattle.gn_rules.specs.declared.receipt.Step.{Step}
use Rattle.gn_rules.specs.declared.refusal.Refusal.{Refusal}
use Rattle.gn_rules.specs.declared.reply.Reply.{Reply}
use Rattle.gn_rules.specs.declared.reply.Reply.TheVariants.{Connected, TooMany, Closed, Taken, Sent}
use Rattle.gn_rules.specs.declared.sends.Sending.{Sending}
use Rattle.gn_rules.specs.declared.statistics.Stats.{Stats}
use Rattle.gn_rules.specs.Answer.{admission_reply, answer, decision_reply, event_answer, may_originate}
use Rattle.gn_rules.specs.Decision.{decide}
use Rattle.gn_rules.specs.Flight.{Admission, flying, flying_from, in_flight, tickets}
use Rattle.gn_rules.specs.Limits.{most}
use Rattle.gn_rules.specs.History.{connections, live, live_connections, sends_of}
use Rattle.gn_rules.specs.Output.{out}
use Rattle.gn_rules.specs.Sending.{fanout}
use Rattle.gn_rules.specs.SeenEntries.{is_remembered}
use Rattle.gn_rules.specs.Statistics.{counter_of, count_in}
use Rattle.gn_rules.proofs.CounterLemmas.{count_few}
use Rattle.gn_rules.proofs.DecisionLemmas.{key_is_new}
use Rattle.gn_tables.specs.declared.flights.Flight.{Flight}
use Rattle.gn_tables.specs.Outputs.{Outputs}
use Rattle.gn_table_router.specs.declared.tables.Tables.{Tables}
use Rattle.gn_kept.specs.Remembered.{IsNewKey}
use Rattle.gn_tables.specs.Routed.{CanRemember, carried}
use Rattle.gn_table_router.specs.Followed.{CanAdmit, CanConnect, CanFollow, CanMove, CanRoute, moved, routed}
use Rattle.gn_table_router.specs.Sent.{CanSend}
use Rattle.gn_table_router.specs.Tabled.{IsTabled, flight_of}
use Rattle.gn_table_router.proofs.DecisionLemmas.{route_sends, servent_is_known}
use Rattle.gn_table_router.proofs.FlightLemmas.{absent}
use Rattle.gn_table_router.proofs.FollowLemmas.{admit_for, below_from, first_for, flight_for, live_for, origin_for, room_for}
use Rattle.gn_table_router.proofs.ReadLemmas.{count_known}
use Rattle.gn_table_router.proofs.SendableLemmas.{AreSendable, fanout_sends, sends_fit}

none_from : {X : Type 0} (o : Option X) → is_some o ≡ false → o ≡ None
none_from None h = refl
none_from (Some x) h = absurd (cc)

module _ {A : Type 0} (s : Config) (past : List (Step A)) (t : Tables A) (are : IsTabled s past t) where
  -- what isn't remembered isn't in the table
  new_key : (key : Key) → is_remembered s past key ≡ false → IsNewKey key t.seen
  new_key key h = ap (λ seen. lookup (is_same_key key) seen.seen_entries) are.seen_is ∙ none_from _ h

  find_room : (sends : List (Sending A)) → AreSendable s past sends → CanSend sends t.neighbours
  find_room sends h = subst (λ (l : Outputs). CanSend sends l) (sym are.neighbours_are) (sends_fit s past sends h)

  connects : (full : Bool) → (length (live_connections past) == s.numbers.neighbours) ≡ full → (reply : Reply A)
      → cond {A = Result (Reply A) Refusal} full (Ok TooMany) (Ok (Connected (1 + length (connections past)))) ≡ Ok reply → CanConnect reply t
  connects true e reply f = let is : TooMany ≡ reply = cc in subst (λ (r : Reply A). CanConnect r t) is tt
  connects false e reply f =
      let c : ℕ = 1 + length (connections past) in
      let is : Connected c ≡ reply = cc in
      let same : c ≡ t.connected + 1 = omega (arith, are.numbered.counted) in
      let below : All (λ d. d < c) (connections past) = rw same are.numbered.below in
      let greater : All (λ r. r.0 < c) t.neighbours.rows = subst (λ (l : Outputs). All (λ r. r.0 < c) l.rows) (sym are.neighbours_are)
      (All-map (λ r. r.0 < c) (λ d. (d, out past d)) (live_connections past) (All-filter (live past) (λ d. d < c) (connections past) below)) in
      let room : length (live_connections past) < s.numbers.neighbours = below_from (length (live_connections past)) s.numbers.neighbours are.numbered.few_live e in
      let most : t.neighbours.most ≡ s.numbers.neighbours = ap (λ l. l.most) are.neighbours_are in
      let few : length t.neighbours.rows < t.neighbours.most = omega (arith, room, most, count_known s past t are) in
      subst (λ (r : Reply A). CanConnect r t) is (greater, few)

  admits : (busy : Bool) → (length (flying past) == s.numbers.stage) ≡ busy → (crowded : Bool) → length past < most.steps
      → CanAdmit (admission_reply {A = A} busy crowded (length (tickets past))) t
  admits true e crowded short = tt
  admits false e true short = tt
  admits false e false short =
      let m : ℕ = length (tickets past) in
      let same : t.admitted ≡ m = are.flights_are.counted in
      let fits : m + 1 < 2 ^ 32 = omega (arith, same, are.flights_are.few, short) in
      let room : length (flying past) < s.numbers.stage = below_from (length (flying past)) s.numbers.stage are.flights_are.few_flying e in
      let few : fin.len t.flights.flights < t.flights.most = omega (arith, room, are.flights_are.many, are.flights_are.most) in
      let none : fin.get t.flights.flights m ≡ None = rw (← same) (absent s past t.admitted t.flights are.flights_are) in
      (fits, few, none)

  routes : (u : ℕ) (reply : Reply A) (a : Admission) → in_flight past u ≡ Some a → reply ≡ decision_reply s past a (decide s past a) → CanRoute u reply t
  routes u reply a there is = subst (λ (r : Reply A). CanRoute u r t) (sym is) (λ f got.
      let found : Some f ≡ Some (flight_of a) = sym got ∙ are.flights_are.each u ∙ ap (option_map flight_of) there in
      let same : f ≡ flight_of a = cc in
      subst (λ (g : Flight A). CanRemember (decision_reply s past a (decide s past a)) (carried g) t.seen) (sym same) (record {
        is_new = λ keeps. new_key _ (key_is_new s past a keeps);
        verdict = λ hit. servent_is_known s past a hit;
      }))

  can_move : (event : Event A) (reply : Reply A) → length past < most.steps → answer s past event ≡ Ok reply → CanMove event reply t
  can_move Connect reply short h = connects (length (live_connections past) == s.numbers.neighbours) refl reply (room_for _ _ reply h).1
  can_move (Close c) reply short h = tt
  can_move (Admit c d) reply short h =
      subst (λ (r : Reply A). CanAdmit r t) (admit_for s past c d reply h)
      (admits (length (flying past) == s.numbers.stage) refl (not (s.numbers.crowd == 0) && nat_le s.numbers.crowd (length (flying_from past c))) short)
  can_move (Route u) reply short h =
      let flight : (a : Admission) × (in_flight past u ≡ Some a) × (reply ≡ decision_reply s past a (decide s past a)) = flight_for s past (in_flight past u) reply (room_for _ _ reply h).1 in
      routes u reply flight.0 flight.1 flight.2
  can_move (Take c) reply short h = tt
  can_move (Originate d) reply short h =
      new_key (key_of d) (origin_for (may_originate s.numbers.life d) (is_remembered s past (key_of d)) (fanout s past 0 d) reply (room_for _ _ reply h).1).0

  -- a reply that sends nothing
  silent : (l : Outputs) (reply quiet : Reply A) → quiet ≡ reply → CanSend (sends_of quiet) l → CanSend (sends_of reply) l
  silent l reply quiet is can = subst (λ (r : Reply A). CanSend (sends_of r) l) is can

  connect_sends : (full : Bool) (n : ℕ) (reply : Reply A) → cond {A = Result (Reply A) Refusal} full (Ok TooMany) (Ok (Connected n)) ≡ Ok reply
      → (l : Outputs) → CanSend (sends_of reply) l
  connect_sends true n reply f l = let is : TooMany ≡ reply = cc in silent l reply TooMany is tt
  connect_sends false n reply f l = let is : Connected n ≡ reply = cc in silent l reply (Connected n) is tt

  admit_sends : (busy crowded : Bool) (n : ℕ) (l : Outputs) → CanSend (sends_of (admission_reply {A = A} busy crowded n)) l
  admit_sends true crowded n l = tt
  admit_sends false true n l = tt
  admit_sends false false n l = tt

  -- a route leaves the output queues as they are until its packets are queued
  route_leaves : (u : ℕ) (reply : Reply A) (o : Option (Flight A)) → (routed u reply o t).neighbours ≡ t.neighbours
  route_leaves u reply None = refl
  route_leaves u reply (Some f) = refl

  can_send : (event : Event A) (reply : Reply A) → answer s past event ≡ Ok reply → CanSend (sends_of reply) (moved event reply t).neighbours
  can_send Connect reply h =
      connect_sends (length (live_connections past) == s.numbers.neighbours) (1 + length (connections past)) reply (room_for _ _ reply h).1 _
  can_send (Close c) reply h =
      let n : ℕ = length (out past c) in
      let found : Ok (Closed n) ≡ Ok reply = (live_for (live past c) (Ok (Closed n)) reply (room_for (length past == s.numbers.steps) (event_answer s past (Close c)) reply h).1).1 in
      let is : Closed n ≡ reply = cc in
      silent _ reply (Closed n) is tt
  can_send (Admit c d) reply h =
      let after : Outputs = (moved (Admit c d) reply t).neighbours in
      subst (λ (r : Reply A). CanSend (sends_of r) after) (admit_for s past c d reply h)
      (admit_sends (length (flying past) == s.numbers.stage) (not (s.numbers.crowd == 0) && nat_le s.numbers.crowd (length (flying_from past c))) (length (tickets past)) after)
  can_send (Route u) reply h =
      let flight : (a : Admission) × (in_flight past u ≡ Some a) × (reply ≡ decision_reply s past a (decide s past a)) = flight_for s past (in_flight past u) reply (room_for _ _ reply h).1 in
      subst (λ (l : Outputs). CanSend (sends_of reply) l) (sym (route_leaves u reply (fin.get t.flights.flights u)))
      (subst (λ (r : Reply A). CanSend (sends_of r) t.neighbours) (sym flight.2) (find_room _ (route_sends s past flight.0 are.numbered.apart)))
  can_send (Take c) reply h =
      let first : (p : Packet) × (reply ≡ Taken p) = first_for (out past c) reply (live_for (live past c) _ reply (room_for _ _ reply h).1).1 in
      silent _ reply (Taken first.0) (sym first.1) tt
  can_send (Originate d) reply h =
      let is : reply ≡ Sent (fanout s past 0 d) = (origin_for (may_originate s.numbers.life d) (is_remembered s past (key_of d)) (fanout s past 0 d) reply (room_for _ _ reply h).1).1 in
      subst (λ (r : Reply A). CanSend (sends_of r) t.neighbours) (sym is) (find_room (fanout s past 0 d) (fanout_sends s past are.numbered.apart 0 d))

  pub can_follow : (event : Event A) (reply : Reply A) → answer s past event ≡ Ok reply → CanFollow event reply t
  can_follow event reply h =
      let room : length past < s.numbers.steps = below_from (length past) s.numbers.steps are.short (room_for _ _ reply h).0 in
      let limit : s.numbers.steps ≤ most.steps = s.within.steps.greatest in
      let short : length past < most.steps = omega (arith, room, limit) in
      let few : count_in (counter_of reply) t.stats ≤ length past =
      subst (λ (n : Stats). count_in (counter_of reply) n ≤ length past) (sym are.stats_are) (count_few past (counter_of reply)) in
      record { moves = can_move event reply short h; counts = omega (arith, few, short); sends = can_send event reply h }
