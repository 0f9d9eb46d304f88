-- What an answered event found, and its reply.
use Rattle.std.proofs.Common.{◌≡◌, ℕ, ◌+◌, ◌==◌, Bool, true, false, not, cond, List, [], ◌∷◌, length, reverse, slice_get, Option, Some, None, option_map, ok_or, Result, Ok, Err, ◌⊎◌, inl, inr, nat_le, ◌&&◌, refl, sym, ap, ◌∙◌}
use Rattle.std.specs.Option.{option_map_or}
use Rattle.gn_wire.specs.Keys.{is_same_packet, key_of}
use Rattle.gn_wire.specs.Packet.{Packet}
use Rattle.gn_rules.specs.declared.config.Config.{Config}
use Rattle.gn_rules.specs.declared.event.Event.{Event}
use Rattle.gn_rules.specs.declared.event.Event.TheVariants.{Connect, Close, Admit, Route, Take, Originate}
use Rattle.gn_rules.specs.declared.receipt.Step.{Step}
use Rattle.gn_rules.specs.declared.refusal.Refusal.{Refusal}
use Rattle.gn_rules.specs.declared.refusal.Refusal.TheVariants.{HistoryFull, NotLive, NoTicket, Strange, NothingWaiting, BadOrigin, Remembered}
use Rattle.gn_rules.specs.declared.reply.Reply.{Reply}
use Rattle.gn_rules.specs.declared.reply.Reply.TheVariants.{Connected, TooMany, Closed, Admitted, Busy, Crowded, Taken, Sent}
use Rattle.gn_rules.specs.Answer.{admission_reply, answer, checked_answer, decision_reply, event_answer, may_originate, unless_strange}
use Rattle.gn_rules.specs.Decision.{decide}
use Rattle.gn_rules.specs.Flight.{Admission, flying, flying_from, in_flight, tickets}
use Rattle.gn_rules.specs.History.{live, connections, live_connections}
use Rattle.gn_rules.specs.Output.{out}
use Rattle.gn_rules.specs.Sending.{fanout}
use Rattle.gn_rules.specs.SeenEntries.{is_remembered}

-- a reply that took the first packet
pub record TookFirst {A : Type 0} (packets : List Packet) (reply : Reply A) : Type 0 where
  pub packet : Packet
  pub after : List Packet
  pub first : packets ≡ packet ∷ after
  pub reply_is : reply ≡ Taken packet

-- a reply to a route of what was in flight
pub record RoutedFlight {A : Type 0} (s : Config) (past : List (Step A)) (found : Option Admission) (reply : Reply A) : Type 0 where
  pub admitted : Admission
  pub found_is : found ≡ Some admitted
  pub reply_is : reply ≡ decision_reply s past admitted (decide s past admitted)

-- what an answered event found, and its reply
abbrev pub Answered : {A : Type 0} → Config → List (Step A) → Event A → Reply A → Type 0
Answered s past Connect reply = (reply ≡ TooMany) ⊎ (reply ≡ Connected (1 + length (connections past)))
Answered s past (Close c) reply = (live past c ≡ true) × (reply ≡ Closed (length (out past c)))
Answered s past (Admit c d) reply = (live past c ≡ true) × ((reply ≡ Busy) ⊎ (reply ≡ Crowded) ⊎ (reply ≡ Admitted (length (tickets past))))
Answered s past (Route t) reply = RoutedFlight s past (in_flight past t) reply
Answered s past (Take c) reply = (live past c ≡ true) × TookFirst (out past c) reply
Answered s past (Originate d) reply = reply ≡ Sent (fanout s past 0 d)

-- after a test that refuses
unless_refused : {A : Type 0} (b : Bool) (refusal : Refusal) (rules : Result (Reply A) Refusal) (reply : Reply A) → cond b (Err refusal) rules ≡ Ok reply → (b ≡ false) × (rules ≡ Ok reply)
unless_refused true refusal rules reply e = absurd (cc)
unless_refused false refusal rules reply e = (refl, e)

-- after a test of a connection that wants to be live
where_live : {A : Type 0} (alive : Bool) (rules : Result (Reply A) Refusal) (reply : Reply A) → cond (not alive) (Err NotLive) rules ≡ Ok reply → (alive ≡ true) × (rules ≡ Ok reply)
where_live true rules reply e = (refl, e)
where_live false rules reply e = absurd (cc)

-- one of three replies
which_admission : {A : Type 0} (busy crowded : Bool) (next : ℕ) (reply : Reply A) → reply ≡ admission_reply busy crowded next
    → (reply ≡ Busy) ⊎ (reply ≡ Crowded) ⊎ (reply ≡ Admitted next)
which_admission true crowded next reply e = inl e
which_admission false true next reply e = inr (inl e)
which_admission false false next reply e = inr (inr e)

-- one of two replies
either_reply : {A : Type 0} (b : Bool) (x y reply : Reply A) → cond {A = Result (Reply A) Refusal} b (Ok x) (Ok y) ≡ Ok reply → (reply ≡ x) ⊎ (reply ≡ y)
either_reply true x y reply e = let is : reply ≡ x = cc in inl is
either_reply false x y reply e = let is : reply ≡ y = cc in inr is

reply_is : {A : Type 0} (x reply : Reply A) → ◌≡◌ {A = Result (Reply A) Refusal} (Ok x) (Ok reply) → reply ≡ x
reply_is x reply e = cc

first_reply : {A : Type 0} (packets : List Packet) (reply : Reply A)
    → ok_or (option_map (λ packet. Taken packet) (slice_get packets 0)) NothingWaiting ≡ Ok reply → TookFirst packets reply
first_reply [] reply e = absurd (cc)
first_reply (p ∷ ps) reply e = record { packet = p; after = ps; first = refl; reply_is = reply_is (Taken p) reply e }

flight_reply : {A : Type 0} (s : Config) (past : List (Step A)) (found : Option Admission) (reply : Reply A)
    → ok_or (option_map (λ a. decision_reply s past a (decide s past a)) found) NoTicket ≡ Ok reply → RoutedFlight s past found reply
flight_reply s past None reply e = absurd (cc)
flight_reply s past (Some a) reply e = record { admitted = a; found_is = refl; reply_is = reply_is (decision_reply s past a (decide s past a)) reply e }

event_reply : {A : Type 0} (s : Config) (past : List (Step A)) (event : Event A) (reply : Reply A) → event_answer s past event ≡ Ok reply → Answered s past event reply
event_reply s past Connect reply e = either_reply (length (live_connections past) == s.numbers.neighbours) TooMany (Connected (1 + length (connections past))) reply e
event_reply s past (Close c) reply e =
    let alive = where_live (live past c) (Ok (Closed (length (out past c)))) reply e in
    (alive.0, reply_is (Closed (length (out past c))) reply alive.1)
event_reply s past (Admit c d) reply e =
    let busy : Bool = length (flying past) == s.numbers.stage in
    let crowded : Bool = not (s.numbers.crowd == 0) && nat_le s.numbers.crowd (length (flying_from past c)) in
    let next : ℕ = length (tickets past) in
    let alive = where_live (live past c) (Ok (admission_reply busy crowded next)) reply e in
    (alive.0, which_admission busy crowded next reply (reply_is (admission_reply busy crowded next) reply alive.1))
event_reply s past (Route t) reply e = flight_reply s past (in_flight past t) reply e
event_reply s past (Take c) reply e =
    let alive = where_live (live past c) (ok_or (option_map (λ packet. Taken packet) (slice_get (out past c) 0)) NothingWaiting) reply e in
    (alive.0, first_reply (out past c) reply alive.1)
event_reply s past (Originate d) reply e =
    let sent : Result (Reply _) Refusal = Ok (Sent (fanout s past 0 d)) in
    let may = unless_refused (not (may_originate s.numbers.life d)) BadOrigin (cond (is_remembered s past (key_of d)) (Err Remembered) sent) reply e in
    let new = unless_refused (is_remembered s past (key_of d)) Remembered sent reply may.1 in
    reply_is (Sent (fanout s past 0 d)) reply new.1

pub answered : {A : Type 0} (s : Config) (past : List (Step A)) (event : Event A) (reply : Reply A) → answer s past event ≡ Ok reply → Answered s past event reply
answered s past event reply e = event_reply s past event reply ((unless_refused (length past == s.numbers.steps) HistoryFull (event_answer s past event) reply e).1)

-- event by event, without what was found
module _ {A : Type 0} (s : Config) (past : List (Step A)) (reply : Reply A) where
  pub has_room : (event : Event A) → answer s past event ≡ Ok reply → (length past == s.numbers.steps) ≡ false
  has_room event e = (unless_refused (length past == s.numbers.steps) HistoryFull (event_answer s past event) reply e).0

  pub connect_reply : answer s past Connect ≡ Ok reply → (reply ≡ TooMany) ⊎ (reply ≡ Connected (1 + length (connections past)))
  connect_reply e = answered s past Connect reply e

  pub close_reply : (c : ℕ) → answer s past (Close c) ≡ Ok reply → reply ≡ Closed (length (out past c))
  close_reply c e = (answered s past (Close c) reply e).1

  pub admit_reply : (c : ℕ) (d : Packet) → answer s past (Admit c d) ≡ Ok reply → (reply ≡ Busy) ⊎ (reply ≡ Crowded) ⊎ (reply ≡ Admitted (length (tickets past)))
  admit_reply c d e = (answered s past (Admit c d) reply e).1

  pub take_reply : (c : ℕ) → answer s past (Take c) ≡ Ok reply → TookFirst (out past c) reply
  take_reply c e = (answered s past (Take c) reply e).1

  pub originate_reply : (d : Packet) → answer s past (Originate d) ≡ Ok reply → reply ≡ Sent (fanout s past 0 d)
  originate_reply d e = answered s past (Originate d) reply e

  pub routed_reply : (t : ℕ) → answer s past (Route t) ≡ Ok reply → RoutedFlight s past (in_flight past t) reply
  routed_reply t e = answered s past (Route t) reply e

-- a Route with the admitted descriptor is answered as a plain Route
pub checked_is_answer : {A : Type 0} (s : Config) (past : List (Step A)) (t : ℕ) (d : Packet) (reply : Reply A) → checked_answer s past t d ≡ Ok reply → answer s past (Route t) ≡ Ok reply
checked_is_answer {A} s past t d reply e = same (answer s past (Route t)) e
  where
    same_packet : (b : Bool) (routed : Reply A) → cond {A = Result (Reply A) Refusal} b (Ok routed) (Err Strange) ≡ Ok reply → ◌≡◌ {A = Result (Reply A) Refusal} (Ok routed) (Ok reply)
    same_packet true routed e = e
    same_packet false routed e = absurd (cc)

    same : (rules : Result (Reply A) Refusal) → unless_strange d (in_flight past t) rules ≡ Ok reply → rules ≡ Ok reply
    same (Err refusal) e = e
    same (Ok routed) e = same_packet (option_map_or (λ a. is_same_packet d a.packet) (in_flight past t) false) routed e

-- the same of a route that is asked with equal steps
pub checked_at_is_answer : {A : Type 0} (s : Config) (steps read : List (Step A)) (t : ℕ) (d : Packet) (reply : Reply A) → read ≡ steps → checked_answer s (reverse read) t d ≡ Ok reply
    → answer s (reverse steps) (Route t) ≡ Ok reply
checked_at_is_answer s steps read t d reply same e = ap (λ xs. answer s (reverse xs) (Route t)) (sym same) ∙ checked_is_answer s (reverse read) t d reply e
