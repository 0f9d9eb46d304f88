-- What the rules answer fits the event.
use Rattle.std.proofs.Common.{◌≡◌, ◌+◌, ◌==◌, ℕ, Bool, true, false, cond, not, List, [], ◌∷◌, length, slice_get, Option, Some, None, option_map, ok_or, Result, Ok, Err, nat_le, ◌&&◌, refl, sym, ap, ◌∙◌}
use Rattle.std.specs.Option.{option_map_or}
use Rattle.gn_wire.specs.Packet.{Packet}
use Rattle.gn_wire.specs.Keys.{is_same_packet, key_of}
use Rattle.gn_rules.specs.declared.config.Config.{Config}
use Rattle.gn_rules.specs.declared.event.Event.{Event}
use Rattle.gn_rules.specs.declared.event.Event.TheVariants.{Connect, Close, Admit, Route, Take, Originate}
use Rattle.gn_rules.specs.declared.receipt.Step.{Step}
use Rattle.gn_rules.specs.declared.refusal.Refusal.{Refusal}
use Rattle.gn_rules.specs.declared.refusal.Refusal.TheVariants.{HistoryFull, NotLive, NoTicket, Strange, NothingWaiting, BadOrigin, Remembered, NoMemory}
use Rattle.gn_rules.specs.declared.reply.Reply.{Reply}
use Rattle.gn_rules.specs.declared.reply.Reply.TheVariants.{Connected, TooMany, Closed, Admitted, Busy, Crowded, Taken, Sent}
use Rattle.gn_rules.specs.Answer.{admission_reply, answer, decision_reply, event_answer, may_originate, unless_strange, Finds}
use Rattle.gn_rules.specs.Decision.{Decision, Drop, decide}
use Rattle.gn_rules.specs.Fits.{is_at_threshold, is_fit, replies, AnswersFit, CheckedAnswersFit}
use Rattle.gn_rules.specs.Flight.{Admission, flying, flying_from, in_flight, tickets}
use Rattle.gn_rules.specs.History.{live, connections, live_connections}
use Rattle.gn_rules.specs.Output.{out}
use Rattle.gn_rules.specs.Sending.{fanout}
use Rattle.gn_rules.specs.SeenEntries.{is_remembered}

-- one of two answers that fit
either_fits : {A : Type 0} (event : Event A) (b : Bool) (x y : Result (Reply A) Refusal) → is_fit event x ≡ true → is_fit event y ≡ true → is_fit event (cond b x y) ≡ true
either_fits event true x y first second = first
either_fits event false x y first second = second

decision_fits : {A : Type 0} (s : Config) (past : List (Step A)) (t : ℕ) (a : Admission) (decision : Decision) → replies {A = A} (Route t) (decision_reply s past a decision) ≡ true
decision_fits s past t a (Drop reason) = refl
decision_fits s past t a decision = refl

flight_fits : {A : Type 0} (s : Config) (past : List (Step A)) (t : ℕ) (found : Option Admission)
    → is_fit {A = A} (Route t) (ok_or (option_map (λ a. decision_reply s past a (decide s past a)) found) NoTicket) ≡ true
flight_fits s past t None = refl
flight_fits s past t (Some a) = decision_fits s past t a (decide s past a)

strange_fits : {A : Type 0} (t : ℕ) (d : Packet) (found : Option Admission) (rules : Result (Reply A) Refusal) → is_fit (Route t) rules ≡ true
    → is_fit (Route t) (unless_strange d found rules) ≡ true
strange_fits t d found (Err refusal) fit = fit
strange_fits t d found (Ok reply) fit = either_fits (Route t) (option_map_or (λ a. is_same_packet d a.packet) found false) (Ok reply) (Err Strange) fit refl

first_fits : (A : Type 0) (c : ℕ) (packets : List Packet)
    → is_fit {A = A} (Take c) (ok_or (option_map (λ packet. Taken packet) (slice_get packets 0)) NothingWaiting) ≡ true
first_fits A c [] = refl
first_fits A c (p ∷ ps) = refl

admission_fits : (A : Type 0) (c : ℕ) (d : Packet) (busy crowded : Bool) (next : ℕ) → replies {A = A} (Admit c d) (admission_reply busy crowded next) ≡ true
admission_fits A c d true crowded next = refl
admission_fits A c d false true next = refl
admission_fits A c d false false next = refl

event_fits : {A : Type 0} (s : Config) (past : List (Step A)) (event : Event A) → is_fit event (event_answer s past event) ≡ true
event_fits s past Connect = either_fits Connect (length (live_connections past) == s.numbers.neighbours) (Ok TooMany) (Ok (Connected (1 + length (connections past)))) refl refl
event_fits s past (Close c) = either_fits (Close c) (not (live past c)) (Err NotLive) (Ok (Closed (length (out past c)))) refl refl
event_fits {A} s past (Admit c d) =
    let busy : Bool = length (flying past) == s.numbers.stage in
    let crowded : Bool = not (s.numbers.crowd == 0) && nat_le s.numbers.crowd (length (flying_from past c)) in
    let next : ℕ = length (tickets past) in
    either_fits (Admit c d) (not (live past c)) (Err NotLive) (Ok (admission_reply busy crowded next)) refl (admission_fits A c d busy crowded next)
event_fits s past (Route t) = flight_fits s past t (in_flight past t)
event_fits {A} s past (Take c) =
    either_fits (Take c) (not (live past c)) (Err NotLive) (ok_or (option_map (λ packet. Taken packet) (slice_get (out past c) 0)) NothingWaiting) refl (first_fits A c (out past c))
event_fits s past (Originate d) =
    either_fits (Originate d) (not (may_originate s.numbers.life d)) (Err BadOrigin) (cond (is_remembered s past (key_of d)) (Err Remembered) (Ok (Sent (fanout s past 0 d)))) refl
    (either_fits (Originate d) (is_remembered s past (key_of d)) (Err Remembered) (Ok (Sent (fanout s past 0 d))) refl refl)

pub answers_fit : (A : Type 0) → AnswersFit A
answers_fit A s past event = either_fits event (length past == s.numbers.steps) (Err HistoryFull) (event_answer s past event) refl (event_fits s past event)

pub checked_answers_fit : (A : Type 0) → CheckedAnswersFit A
checked_answers_fit A s past t d = strange_fits t d (in_flight past t) (answer s past (Route t)) (answers_fit A s past (Route t))

-- what holds of each reply at a threshold
pub threshold_elim : {A : Type 0} (P : Reply A → Type 0) → P Busy → P Crowded → (reply : Reply A) → is_at_threshold reply ≡ true → P reply
threshold_elim P busy crowded Busy reached = busy
threshold_elim P busy crowded Crowded reached = crowded
threshold_elim P busy crowded reply reached = absurd (cc)

-- what a router finds fits where the rules' answer does
pub found_fits : {A : Type 0} (event : Event A) (found rules : Result (Reply A) Refusal) → Finds found rules → is_fit event rules ≡ true → is_fit event found ≡ true
found_fits event (Ok reply) rules is fit = ap (is_fit event) (sym is) ∙ fit
found_fits event (Err HistoryFull) rules is fit = refl
found_fits event (Err NotLive) rules is fit = ap (is_fit event) (sym is) ∙ fit
found_fits event (Err NoTicket) rules is fit = ap (is_fit event) (sym is) ∙ fit
found_fits event (Err Strange) rules is fit = ap (is_fit event) (sym is) ∙ fit
found_fits event (Err NothingWaiting) rules is fit = ap (is_fit event) (sym is) ∙ fit
found_fits event (Err BadOrigin) rules is fit = ap (is_fit event) (sym is) ∙ fit
found_fits event (Err Remembered) rules is fit = ap (is_fit event) (sym is) ∙ fit
found_fits event (Err NoMemory) rules is fit = refl
