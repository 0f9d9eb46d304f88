-- What an event with its reply and its packets do to the tables is what one more step makes of them.
use Rattle.std.proofs.Common.{◌≡◌, ℕ, ◌+◌, ◌<◌, ◌≤◌, ◌==◌, not, Bool, true, false, cond, if◌then◌else◌, List, [], ◌∷◌, length, is_some, slice_get, nat_le, ◌&&◌, ok_or, Option, Some, None, Result, Ok, Err, refl, sym, ap, ◌∙◌, subst, arith}
use Rattle.std.specs.List.{All}
use Rattle.std.specs.Option.{option_and_then, option_map}
use Rattle.std.specs.FinMap as fin
use Rattle.std.proofs.lemmas.Grind.{common_steps}
use Rattle.gn_wire.specs.declared.key.Key.{Key}
use Rattle.gn_wire.specs.Keys.{key_of}
use Rattle.gn_wire.specs.Packet.{Packet}
use Rattle.gn_rules.specs.declared.config.Config.{Config}
use Rattle.gn_rules.specs.declared.event.Event.{Event}
use Rattle.gn_rules.specs.declared.event.Event.TheVariants.{Connect, Close, Admit, Route, Take, Originate}
use Rattle.gn_rules.specs.declared.receipt.Step.{Step}
use Rattle.gn_rules.specs.declared.refusal.Refusal.{Refusal}
use Rattle.gn_rules.specs.declared.refusal.Refusal.TheVariants.{HistoryFull, NotLive, NoTicket, NothingWaiting, BadOrigin, Remembered}
use Rattle.gn_rules.specs.declared.reply.Reply.{Reply}
use Rattle.gn_rules.specs.declared.reply.Reply.TheVariants.{Connected, TooMany, Closed, Admitted, Taken, Sent}
use Rattle.gn_rules.specs.declared.sends.Sending.{Sending}
use Rattle.gn_rules.specs.Answer.{admission_reply, answer, decision_reply, event_answer, may_originate}
use Rattle.gn_rules.specs.Decision.{Decision, Drop, Local, Flood, Forward, decide}
use Rattle.gn_rules.specs.Flight.{Admission, admission, flying, flying_from, in_flight, is_route, is_routed, tickets}
use Rattle.gn_rules.specs.History.{admitted_of, connected_of, is_close, is_take, sends_of, connections, live, live_connections}
use Rattle.gn_rules.specs.Output.{out, rows}
use Rattle.gn_rules.specs.Sending.{fanout}
use Rattle.gn_rules.specs.Servents.{hit_of}
use Rattle.gn_rules.specs.SeenEntries.{is_remembered, entry_of}
use Rattle.gn_rules.specs.Statistics.{counter_of, raised, stats_of}
use Rattle.gn_rules.proofs.CounterLemmas.{stats_more}
use Rattle.gn_rules.proofs.StepLemmas.{rows-closed, rows-connected, rows-sent, rows-taken}
use Rattle.gn_tables.specs.declared.flights.Flight.{Flight}
use Rattle.gn_tables.specs.Outputs.{Outputs, first_of, joined, left, output_of, popped}
use Rattle.gn_table_router.specs.declared.tables.Tables.{Tables}
use Rattle.gn_kept.specs.Remembered.{with_kept}
use Rattle.gn_tables.specs.Routed.{with_heard}
use Rattle.gn_table_router.specs.Followed.{counted, followed, queued, routed}
use Rattle.gn_table_router.specs.Sent.{sent}
use Rattle.gn_table_router.specs.Tabled.{AreFlying, AreNumbered, IsTabled, flight_of, known, outputs, remembered}
use Rattle.gn_table_router.proofs.DecisionLemmas.{route_sends}
use Rattle.gn_table_router.proofs.FlightLemmas.{flights_admitted, flights_kept, flights_routed}
use Rattle.gn_table_router.proofs.MemoryLemmas.{known_routed, remembered_routed, known_more, remembered_more, with_entry_of, with_hit_of}
use Rattle.gn_table_router.proofs.NumberLemmas.{numbered_closed, numbered_connected, numbered_kept}
use Rattle.gn_table_router.proofs.ReadLemmas.{front_known}
use Rattle.gn_table_router.proofs.SendableLemmas.{AreSendable, fanout_sends, sends_quiet, sent_none}

pub below_from : (n m : ℕ) → n ≤ m → (n == m) ≡ false → n < m
below_from n m h e = grind (arith, common_steps)

-- a reply where the history has room
pub room_for : {A : Type 0} (full : Bool) (rules : Result (Reply A) Refusal) (reply : Reply A) → (if full then Err HistoryFull else rules) ≡ Ok reply
    → (full ≡ false) × (rules ≡ Ok reply)
room_for true rules reply h = absurd (cc)
room_for false rules reply h = (refl, h)

-- a reply where a connection is live
pub live_for : {A : Type 0} (alive : Bool) (rules : Result (Reply A) Refusal) (reply : Reply A) → (if not alive then Err NotLive else rules) ≡ Ok reply
    → (alive ≡ true) × (rules ≡ Ok reply)
live_for true rules reply h = (refl, h)
live_for false rules reply h = absurd (cc)

ok_is : {A : Type 0} (rules reply : Reply A) → ◌≡◌ {A = Result (Reply A) Refusal} (Ok rules) (Ok reply) → rules ≡ reply
ok_is rules reply h = cc

-- the reply to an Admit
pub admit_for : {A : Type 0} (s : Config) (past : List (Step A)) (c : ℕ) (d : Packet) (reply : Reply A) → answer s past (Admit c d) ≡ Ok reply
    → admission_reply {A = A} (length (flying past) == s.numbers.stage) (not (s.numbers.crowd == 0) && nat_le s.numbers.crowd (length (flying_from past c))) (length (tickets past)) ≡ reply
admit_for {A} s past c d reply h =
    let busy : Bool = length (flying past) == s.numbers.stage in
    let crowded : Bool = not (s.numbers.crowd == 0) && nat_le s.numbers.crowd (length (flying_from past c)) in
    ok_is (admission_reply {A = A} busy crowded (length (tickets past))) reply (live_for (live past c) _ reply (room_for _ _ reply h).1).1

-- what waits has a first packet
pub first_for : {A : Type 0} (packets : List Packet) (reply : Reply A) → ok_or (option_map (λ p. Taken p) (slice_get packets 0)) NothingWaiting ≡ Ok reply
    → (p : Packet) × (reply ≡ Taken p)
first_for [] reply h = absurd (cc)
first_for (p ∷ ps) reply h = let is : reply ≡ Taken p = cc in (p, is)

-- the packet that is taken is the first that waits
first_is : {A : Type 0} (o : Option Packet) (p : Packet) → ◌≡◌ {A = Result (Reply A) Refusal} (ok_or (option_map (λ p. Taken p) o) NothingWaiting) (Ok (Taken p)) → o ≡ Some p
first_is None p h = absurd (cc)
first_is (Some q) p h = cc

first_there : {X Y : Type 0} (f : X → Option Y) (o : Option X) (y : Y) → option_map f o ≡ Some (Some y) → option_and_then f o ≡ Some y
first_there f None y h = absurd (cc)
first_there f (Some x) y h = cc

-- what may be originated, and isn't remembered
pub origin_for : {A : Type 0} (may known : Bool) (sends : List (Sending A)) (reply : Reply A)
    → (if not may then Err BadOrigin else if known then Err Remembered else Ok (Sent sends)) ≡ Ok reply → (known ≡ false) × (reply ≡ Sent sends)
origin_for false known sends reply h = absurd (cc)
origin_for true true sends reply h = absurd (cc)
origin_for true false sends reply h = let is : reply ≡ Sent sends = cc in (refl, is)

-- what is routed is in flight
pub flight_for : {A : Type 0} (s : Config) (past : List (Step A)) (o : Option Admission) (reply : Reply A)
    → ok_or (option_map (λ a. decision_reply s past a (decide s past a)) o) NoTicket ≡ Ok reply
    → (a : Admission) × (o ≡ Some a) × (reply ≡ decision_reply s past a (decide s past a))
flight_for s past None reply h = absurd (cc)
flight_for s past (Some a) reply h = let is : reply ≡ decision_reply s past a (decide s past a) = cc in (a, refl, is)

admission_for : (b : Bool) (o : Option Admission) (a : Admission) → cond b None o ≡ Some a → o ≡ Some a
admission_for true o a h = absurd (cc)
admission_for false o a h = h

-- the reply to a route makes no connection and gives no ticket
route_none : {A : Type 0} (s : Config) (past : List (Step A)) (a : Admission) (d : Decision)
    → (connected_of (decision_reply s past a d) ≡ None) × (admitted_of (decision_reply s past a d) ≡ None)
route_none s past a (Drop why) = (refl, refl)
route_none s past a Local = (refl, refl)
route_none s past a Flood = (refl, refl)
route_none s past a (Forward r) = (refl, refl)

abbrev ticket_reply : (A : Type 0) → ℕ → Reply A
ticket_reply A n = Admitted n

module _ {A : Type 0} (s : Config) (past : List (Step A)) (t : Tables A) (are : IsTabled s past t) where
  abbrev with_rows : List (ℕ × List Packet) → Outputs
  with_rows rs = record { rows = rs; most = s.numbers.neighbours; room = s.numbers.out }

  room_left : (event : Event A) (reply : Reply A) → answer s past event ≡ Ok reply → length past < s.numbers.steps
  room_left event reply h = below_from (length past) s.numbers.steps are.short (room_for _ _ reply h).0

  -- the tables after a step, by their parts
  tabled : (step : Step A) (new : Tables A) → answer s past step.event ≡ Ok step.reply → AreNumbered s (step ∷ past) new.connected
      → AreFlying s (step ∷ past) new.admitted new.flights → new.seen ≡ remembered s (step ∷ past) → new.servents ≡ known s (step ∷ past)
      → new.neighbours ≡ outputs s (step ∷ past) → new.stats ≡ stats_of (step ∷ past) → IsTabled s (step ∷ past) new
  tabled step new h numbered flights seen servents neighbours stats =
      let room : length past < s.numbers.steps = room_left step.event step.reply h in
      record {
        legal = (h, are.legal);
        short = omega arith;
        numbered = numbered;
        flights_are = flights;
        seen_is = seen;
        servents_are = servents;
        neighbours_are = neighbours;
        stats_are = stats;
      }

  seen_moved : (step : Step A) (o : Option (Key × ℕ)) → entry_of past step.event step.reply ≡ o → with_entry_of o t.seen ≡ remembered s (step ∷ past)
  seen_moved step o e =
      ap (with_entry_of o) are.seen_is ∙ ap (λ o. with_entry_of o (remembered s past)) (sym e) ∙ remembered_more s past step

  servents_moved : (step : Step A) (o : Option _) → hit_of past step.event step.reply ≡ o → with_hit_of o t.servents ≡ known s (step ∷ past)
  servents_moved step o e =
      ap (with_hit_of o) are.servents_are ∙ ap (λ o. with_hit_of o (known s past)) (sym e) ∙ known_more s past step

  lines_sent : (step : Step A) → connected_of step.reply ≡ None → ((c : ℕ) → is_close c step.event ≡ false) → ((c : ℕ) → is_take c step.event ≡ false)
      → sent (sends_of step.reply) t.neighbours ≡ outputs s (step ∷ past)
  lines_sent step none no_close no_take =
      ap (sent (sends_of step.reply)) are.neighbours_are ∙ ap with_rows (sym (rows-sent past step none no_close no_take))

  -- so it is the first of the table's, too
  pub first_taken : (c : ℕ) (p : Packet) → answer s past (Take c) ≡ Ok (Taken p) → first_of c t.neighbours ≡ Some p
  first_taken c p h =
      let found = live_for (live past c) (ok_or (option_map (λ p. Taken p) (slice_get (out past c) 0)) NothingWaiting) (Taken p) (room_for _ _ (Taken p) h).1 in
      let head : slice_get (out past c) 0 ≡ Some p = first_is {A = A} (slice_get (out past c) 0) p found.1 in
      let there : (if live past c then Some (slice_get (out past c) 0) else None) ≡ Some (Some p) = rw (found.0, head) refl in
      first_there (λ packets. slice_get packets 0) (output_of c t.neighbours) p (front_known s past t are c ∙ there)

  stats_moved : (step : Step A) → raised (counter_of step.reply) t.stats ≡ stats_of (step ∷ past)
  stats_moved step = ap (raised (counter_of step.reply)) are.stats_are ∙ sym (stats_more step past)

  -- a step that changes no table
  kept : (actor : ℕ) (event : Event A) (reply : Reply A) → answer s past event ≡ Ok reply → connected_of reply ≡ None → admitted_of reply ≡ None → sends_of reply ≡ []
      → ((c : ℕ) → is_close c event ≡ false) → ((c : ℕ) → is_take c event ≡ false) → ((u : ℕ) → is_route u event ≡ false)
      → entry_of past event reply ≡ None → hit_of past event reply ≡ None
      → IsTabled s (record { actor = actor; event = event; reply = reply } ∷ past) (queued (sends_of reply) (counted reply t))
  kept actor event reply h no_connection no_ticket silent no_close no_take no_route no_entry no_hit =
      let step : Step A = record { actor = actor; event = event; reply = reply } in
      tabled step (queued (sends_of reply) (counted reply t)) h
      (numbered_kept s past t.connected are.numbered step no_connection no_close (λ c above. rw silent refl))
      (flights_kept s past t.admitted t.flights are.flights_are step no_ticket no_route)
      (seen_moved step None no_entry) (servents_moved step None no_hit)
      (lines_sent step no_connection no_close no_take)
      (stats_moved step)

  module _ (actor : ℕ) where
    -- the tables are what one more step makes them, once its packets are queued
    abbrev IsFollowed : Event A → Reply A → Type 0
    IsFollowed event reply = IsTabled s (record { actor = actor; event = event; reply = reply } ∷ past) (queued (sends_of reply) (followed event reply t))

    -- Connect
    connects : (full : Bool) → (length (live_connections past) == s.numbers.neighbours) ≡ full → (reply : Reply A) → answer s past Connect ≡ Ok reply
        → cond {A = Result (Reply A) Refusal} full (Ok TooMany) (Ok (Connected (1 + length (connections past)))) ≡ Ok reply → IsFollowed Connect reply
    connects true e reply h f =
        let is : TooMany ≡ reply = cc in
        subst (IsFollowed Connect) is
        (kept actor Connect TooMany (h ∙ ap (λ r. Ok r) (sym is)) refl refl refl (λ c. refl) (λ c. refl) (λ u. refl) refl refl)
    connects false e reply h f =
        let c : ℕ = 1 + length (connections past) in
        let is : Connected c ≡ reply = cc in
        let step : Step A = record { actor = actor; event = Connect; reply = Connected c } in
        let same : c ≡ t.connected + 1 = omega (arith, are.numbered.counted) in
        let room : length (live_connections past) < s.numbers.neighbours = below_from (length (live_connections past)) s.numbers.neighbours are.numbered.few_live e in
        let below : All (λ d. d < c) (connections past) = rw same are.numbered.below in
        let empty : out past c ≡ [] = are.numbered.fresh c (omega arith) in
        subst (IsFollowed Connect) is
        (tabled step (queued (sends_of (Connected c)) (followed Connect (Connected c) t)) (h ∙ ap (λ r. Ok r) (sym is))
        (numbered_connected s past t.connected are.numbered actor c same room)
        (flights_kept s past t.admitted t.flights are.flights_are step refl (λ u. refl))
        (seen_moved step None refl) (servents_moved step None refl)
        (sent_none A (joined c t.neighbours) ∙ ap (joined c) are.neighbours_are ∙ ap with_rows (sym (rows-connected past actor c below empty)))
        (stats_moved step))

    -- Close
    closes : (c : ℕ) (reply : Reply A) → answer s past (Close c) ≡ Ok reply → IsFollowed (Close c) reply
    closes c reply h =
        let n : ℕ = length (out past c) in
        let found : Ok (Closed n) ≡ Ok reply = (live_for (live past c) (Ok (Closed n)) reply (room_for (length past == s.numbers.steps) (event_answer s past (Close c)) reply h).1).1 in
        let is : Closed n ≡ reply = cc in
        let step : Step A = record { actor = actor; event = Close c; reply = Closed n } in
        subst (IsFollowed (Close c)) is
        (tabled step (queued (sends_of (Closed n)) (followed (Close c) (Closed n) t)) (h ∙ ap (λ r. Ok r) (sym is))
        (numbered_closed s past t.connected are.numbered actor c n)
        (flights_kept s past t.admitted t.flights are.flights_are step refl (λ u. refl))
        (seen_moved step None refl) (servents_moved step None refl)
        (sent_none A (left c t.neighbours) ∙ ap (left c) are.neighbours_are ∙ ap with_rows (sym (rows-closed past actor c n)))
        (stats_moved step))

    -- Take
    takes : (c : ℕ) (reply : Reply A) → answer s past (Take c) ≡ Ok reply → IsFollowed (Take c) reply
    takes c reply h =
        let first : (p : Packet) × (reply ≡ Taken p) = first_for (out past c) reply (live_for (live past c) _ reply (room_for _ _ reply h).1).1 in
        let p : Packet = first.0 in
        let step : Step A = record { actor = actor; event = Take c; reply = Taken p } in
        subst (IsFollowed (Take c)) (sym first.1)
        (tabled step (queued (sends_of (Taken p)) (followed (Take c) (Taken p) t)) (h ∙ ap (λ r. Ok r) first.1)
        (numbered_kept s past t.connected are.numbered step refl (λ d. refl) (λ d above. refl))
        (flights_kept s past t.admitted t.flights are.flights_are step refl (λ u. refl))
        (seen_moved step None refl) (servents_moved step None refl)
        (sent_none A (popped c t.neighbours) ∙ ap (popped c) are.neighbours_are ∙ ap with_rows (sym (rows-taken past actor c p)))
        (stats_moved step))

    -- Admit
    admits : (c : ℕ) (d : Packet) (busy : Bool) → (length (flying past) == s.numbers.stage) ≡ busy → (crowded : Bool)
        → answer s past (Admit c d) ≡ Ok (admission_reply {A = A} busy crowded (length (tickets past))) → IsFollowed (Admit c d) (admission_reply {A = A} busy crowded (length (tickets past)))
    admits c d true e crowded h =
        kept actor (Admit c d) (admission_reply {A = A} true crowded (length (tickets past))) h refl refl refl (λ c. refl) (λ c. refl) (λ u. refl) refl refl
    admits c d false e true h =
        kept actor (Admit c d) (admission_reply {A = A} false true (length (tickets past))) h refl refl refl (λ c. refl) (λ c. refl) (λ u. refl) refl refl
    admits c d false e false h =
        let m : ℕ = t.admitted in
        let is : ticket_reply A m ≡ ticket_reply A (length (tickets past)) = ap (ticket_reply A) are.flights_are.counted in
        let step : Step A = record { actor = actor; event = Admit c d; reply = Admitted m } in
        let room : length (flying past) < s.numbers.stage = below_from (length (flying past)) s.numbers.stage are.flights_are.few_flying e in
        subst (IsFollowed (Admit c d)) is
        (tabled step (queued (sends_of (Admitted m)) (followed (Admit c d) (Admitted m) t)) (h ∙ ap (λ r. Ok r) (sym is))
        (numbered_kept s past t.connected are.numbered step refl (λ d. refl) (λ d above. refl))
        (flights_admitted s past m t.flights are.flights_are actor c d room)
        (seen_moved step None refl) (servents_moved step None refl)
        (lines_sent step refl (λ c. refl) (λ c. refl))
        (stats_moved step))

    -- Originate
    originates : (d : Packet) (reply : Reply A) → answer s past (Originate d) ≡ Ok reply → IsFollowed (Originate d) reply
    originates d reply h =
        let sends : List (Sending A) = fanout s past 0 d in
        let is : reply ≡ Sent sends = (origin_for (may_originate s.numbers.life d) (is_remembered s past (key_of d)) sends reply (room_for _ _ reply h).1).1 in
        let step : Step A = record { actor = actor; event = Originate d; reply = Sent sends } in
        let sendable : AreSendable s past sends = fanout_sends s past are.numbered.apart 0 d in
        subst (IsFollowed (Originate d)) (sym is)
        (tabled step (queued (sends_of (Sent sends)) (followed (Originate d) (Sent sends) t)) (h ∙ ap (λ r. Ok r) is)
        (numbered_kept s past t.connected are.numbered step refl (λ d. refl) (λ c above. sends_quiet s past t.connected c sends are.numbered above sendable))
        (flights_kept s past t.admitted t.flights are.flights_are step refl (λ u. refl))
        (seen_moved step (Some (key_of d, 0)) refl) (servents_moved step None refl)
        (lines_sent step refl (λ c. refl) (λ c. refl))
        (stats_moved step))

    -- Route
    routes : (u : ℕ) (reply : Reply A) → answer s past (Route u) ≡ Ok reply → IsFollowed (Route u) reply
    routes u reply h =
        let flight : (a : Admission) × (in_flight past u ≡ Some a) × (reply ≡ decision_reply s past a (decide s past a)) = flight_for s past (in_flight past u) reply (room_for _ _ reply h).1 in
        let a : Admission = flight.0 in
        let there : in_flight past u ≡ Some a = flight.1 in
        let is : reply ≡ decision_reply s past a (decide s past a) = flight.2 in
        let admission_is : admission past u ≡ Some a = admission_for (is_routed past u) (admission past u) a there in
        let got : fin.get t.flights.flights u ≡ Some (flight_of a) = are.flights_are.each u ∙ ap (option_map flight_of) there in
        let step : Step A = record { actor = actor; event = Route u; reply = reply } in
        let none : (connected_of (decision_reply s past a (decide s past a)) ≡ None) × (admitted_of (decision_reply s past a (decide s past a)) ≡ None) = route_none s past a (decide s past a) in
        let no_connection : connected_of reply ≡ None = ap connected_of is ∙ none.0 in
        let no_ticket : admitted_of reply ≡ None = ap admitted_of is ∙ none.1 in
        let sendable : AreSendable s past (sends_of reply) = subst (λ (r : Reply A). AreSendable s past (sends_of r)) (sym is) (route_sends s past a are.numbered.apart) in
        subst (λ (o : Option (Flight A)). IsTabled s (record { actor = actor; event = Route u; reply = reply } ∷ past) (queued (sends_of reply) (counted reply (routed u reply o t)))) (sym got)
        (tabled step (queued (sends_of reply) (counted reply (routed u reply (Some (flight_of a)) t))) h
        (numbered_kept s past t.connected are.numbered step no_connection (λ d. refl) (λ c above. sends_quiet s past t.connected c (sends_of reply) are.numbered above sendable))
        (flights_routed s past t.admitted t.flights are.flights_are actor u reply no_ticket (ap is_some there))
        (ap (with_kept reply a) are.seen_is ∙ remembered_routed s past actor u reply a admission_is)
        (ap (with_heard reply a) are.servents_are ∙ known_routed s past actor u reply a admission_is)
        (lines_sent step no_connection (λ c. refl) (λ c. refl))
        (stats_moved step))

    -- any event
    pub follows : (event : Event A) (reply : Reply A) → answer s past event ≡ Ok reply
        → IsTabled s (record { actor = actor; event = event; reply = reply } ∷ past) (queued (sends_of reply) (followed event reply t))
    follows Connect reply h = connects (length (live_connections past) == s.numbers.neighbours) refl reply h (room_for _ _ reply h).1
    follows (Close c) reply h = closes c reply h
    follows (Admit c d) reply h =
        let is = admit_for s past c d reply h in
        subst (IsFollowed (Admit c d)) is
        (admits c d (length (flying past) == s.numbers.stage) refl (not (s.numbers.crowd == 0) && nat_le s.numbers.crowd (length (flying_from past c))) (h ∙ ap (λ r. Ok r) (sym is)))
    follows (Route u) reply h = routes u reply h
    follows (Take c) reply h = takes c reply h
    follows (Originate d) reply h = originates d reply h

    -- a Take, after which no packets are queued
    pub follows_take : (c : ℕ) (p : Packet) → answer s past (Take c) ≡ Ok (Taken p)
        → IsTabled s (record { actor = actor; event = Take c; reply = Taken p } ∷ past) (followed {A = A} (Take c) (Taken p) t)
    follows_take c p h =
        subst (λ (o : Outputs). IsTabled s (record { actor = actor; event = Take c; reply = Taken p } ∷ past) (record (followed {A = A} (Take c) (Taken p) t) { neighbours = o }))
        (sent_none A (popped c t.neighbours)) (takes c (Taken p) h)
