-- What one more step does to the tickets in flight.
use Rattle.std.proofs.Common.{◌≡◌, ℕ, ◌<◌, ◌≤◌, ◌==◌, Bool, true, false, ◌||◌, ◌&&◌, not, cond, List, [], ◌∷◌, ◌++◌, length, filter, Option, Some, None, Ok, ◌⊎◌, inl, inr, refl, sym, ap, ◌∙◌, arith, length-append}
use Rattle.std.specs.Option.{option_to_list}
use Rattle.std.proofs.lemmas.Grind.{common_steps}
use Rattle.std.proofs.lemmas.List.{append-nil}
use Rattle.std.proofs.lemmas.List.Elements.{filter-append, filter_agree}
use Rattle.std.proofs.lemmas.Map.Views.{exact_unsigned_eq}
use Rattle.gn_rules.specs.declared.config.Config.{Config}
use Rattle.gn_rules.specs.declared.event.Event.{Event}
use Rattle.gn_rules.specs.declared.event.Event.TheVariants.{Connect, Close, Admit, Route, Take, Originate}
use Rattle.gn_rules.specs.declared.receipt.Step.{Step}
use Rattle.gn_rules.specs.declared.reply.Reply.{Reply}
use Rattle.gn_rules.specs.Answer.{answer, decision_reply, IsLegal}
use Rattle.gn_rules.specs.Decision.{Decision, Drop, decide}
use Rattle.gn_rules.specs.Flight.{Admission, admission, admission_of, flying, flying_after, is_route, is_routed, tickets}
use Rattle.gn_rules.specs.History.{admitted_of, is_at, ticket_of}
use Rattle.gn_rules.proofs.AnswerLemmas.{answered}
use Rattle.gn_rules.proofs.NumberLemmas.{AreCounted, counted_more}
use Rattle.gn_rules.proofs.StepLemmas.{filter_both}

-- a step that gives no ticket and routes none
pub record LeavesTickets {A : Type 0} (event : Event A) (reply : Reply A) : Type 0 where
  pub gives : admitted_of reply ≡ None
  pub routes : ticket_of event ≡ None

-- a step that gives the next ticket
pub record GivesNext {A : Type 0} (past : List (Step A)) (event : Event A) (reply : Reply A) : Type 0 where
  pub gives : admitted_of reply ≡ Some (length (tickets past))
  pub routes : ticket_of event ≡ None

-- a step that routes what is in flight
pub record RoutesOne {A : Type 0} (past : List (Step A)) (event : Event A) (reply : Reply A) : Type 0 where
  pub ticket : ℕ
  pub routes : ticket_of event ≡ Some ticket
  pub gives : admitted_of reply ≡ None
  pub unrouted : is_routed past ticket ≡ false
  pub found : Admission
  pub was_admitted : admission past ticket ≡ Some found

-- what an answered event does about tickets
abbrev pub MovesTickets : {A : Type 0} → List (Step A) → Event A → Reply A → Type 0
MovesTickets past event reply = LeavesTickets event reply ⊎ (GivesNext past event reply ⊎ RoutesOne past event reply)

decision_gives : {A : Type 0} (s : Config) (past : List (Step A)) (a : Admission) (decision : Decision) → admitted_of (decision_reply s past a decision) ≡ None
decision_gives s past a (Drop reason) = refl
decision_gives s past a decision = refl

-- what is in flight was admitted and isn't routed
in_flight_parts : (routed : Bool) (admitted : Option Admission) (a : Admission) → cond routed None admitted ≡ Some a → (routed ≡ false) × (admitted ≡ Some a)
in_flight_parts true admitted a e = absurd (cc)
in_flight_parts false admitted a e = (refl, e)

pub moves_tickets : {A : Type 0} (s : Config) (past : List (Step A)) (event : Event A) (reply : Reply A) → answer s past event ≡ Ok reply → MovesTickets past event reply
moves_tickets s past Connect reply e =
    elim (answered s past Connect reply e) as (λ x. MovesTickets past Connect reply) [
      | inl is ↦ inl (record { gives = ap admitted_of is; routes = refl })
      | inr is ↦ inl (record { gives = ap admitted_of is; routes = refl })
    ]
moves_tickets s past (Close c) reply e = inl (record { gives = ap admitted_of (answered s past (Close c) reply e).1; routes = refl })
moves_tickets s past (Admit c d) reply e =
    elim ((answered s past (Admit c d) reply e).1) as (λ x. MovesTickets past (Admit c d) reply) [
      | inl is ↦ inl (record { gives = ap admitted_of is; routes = refl })
      | inr (inl is) ↦ inl (record { gives = ap admitted_of is; routes = refl })
      | inr (inr is) ↦ inr (inl (record { gives = ap admitted_of is; routes = refl }))
    ]
moves_tickets s past (Route t) reply e =
    let routed = answered s past (Route t) reply e in
    let parts = in_flight_parts (is_routed past t) (admission past t) routed.admitted routed.found_is in
    inr (inr (record {
      ticket = t;
      routes = refl;
      gives = ap admitted_of routed.reply_is ∙ decision_gives s past routed.admitted (decide s past routed.admitted);
      unrouted = parts.0;
      found = routed.admitted;
      was_admitted = parts.1;
    }))
moves_tickets s past (Take c) reply e = inl (record { gives = ap admitted_of (answered s past (Take c) reply e).1.reply_is; routes = refl })
moves_tickets s past (Originate d) reply e = inl (record { gives = ap admitted_of (answered s past (Originate d) reply e); routes = refl })

-- a step gives no ticket, or the next one
pub gives_next : {A : Type 0} (s : Config) (past : List (Step A)) (event : Event A) (reply : Reply A) → answer s past event ≡ Ok reply
    → (admitted_of reply ≡ None) ⊎ (admitted_of reply ≡ Some (length (tickets past)))
gives_next s past event reply e =
    elim (moves_tickets s past event reply e) as (λ x. (admitted_of reply ≡ None) ⊎ (admitted_of reply ≡ Some (length (tickets past)))) [
      | inl leaves ↦ inl leaves.gives
      | inr (inl next) ↦ inr next.gives
      | inr (inr one) ↦ inl one.gives
    ]

-- the tickets count up from 0
pub tickets_counted : {A : Type 0} (s : Config) (past : List (Step A)) → IsLegal s past → AreCounted 0 (tickets past)
tickets_counted s [] legal = λ k within. absurd (omega (arith, within))
tickets_counted s (step ∷ past) legal =
    let before = tickets_counted s past legal.1 in
    elim (gives_next s past step.event step.reply legal.0) as (λ x. AreCounted 0 (tickets past ++ option_to_list (admitted_of step.reply))) [
      | inl none ↦ rw (none, append-nil (tickets past)) before
      | inr next ↦ rw next (counted_more 0 (length (tickets past)) (tickets past) before (omega arith))
    ]

-- a ticket that was given is below the next one
has_given : (t : ℕ) (o : Option ℕ) (n : ℕ) → is_at t o ≡ true → (o ≡ None) ⊎ (o ≡ Some n) → (t ≡ n) × (length (option_to_list o) ≡ 1)
has_given t None n h which = absurd (cc)
has_given t (Some u) n h (inl none) = absurd (cc)
has_given t (Some u) n h (inr next) =
    let same : t ≡ u = exact_unsigned_eq t u h in
    let is : u ≡ n = cc in
    (same ∙ is, refl)

pub admitted_below : {A : Type 0} (s : Config) (past : List (Step A)) (t : ℕ) (a : Admission) → IsLegal s past → admission past t ≡ Some a → t < length (tickets past)
admitted_below s [] t a legal found = absurd (cc)
admitted_below s (step ∷ past) t a legal found =
    let sum = length-append (tickets past) (option_to_list (admitted_of step.reply)) in
    elim (is_at t (admitted_of step.reply)) as (λ b. is_at t (admitted_of step.reply) ≡ b → cond b (admission_of step.event) (admission past t) ≡ Some a → t < length (tickets past ++ option_to_list (admitted_of step.reply))) [
      | true ↦ λ h e.
          let here = has_given t (admitted_of step.reply) (length (tickets past)) h (gives_next s past step.event step.reply legal.0) in
          omega (arith, sum, here.0, here.1)
      | false ↦ λ h e. omega (arith, sum, admitted_below s past t a legal.1 e)
    ] refl found

-- a step doesn't route a ticket that isn't given yet
unrouted_more : {A : Type 0} (s : Config) (past : List (Step A)) (t : ℕ) (event : Event A) (reply : Reply A) → IsLegal s past → answer s past event ≡ Ok reply → length (tickets past) ≤ t → is_route t event ≡ false
unrouted_more s past t event reply legal e late =
    elim (moves_tickets s past event reply e) as (λ x. is_at t (ticket_of event) ≡ false) [
      | inl leaves ↦ ap (is_at t) leaves.routes
      | inr (inl next) ↦ ap (is_at t) next.routes
      | inr (inr one) ↦ ap (is_at t) one.routes ∙ other one.ticket (omega (arith, late, admitted_below s past one.ticket one.found legal one.was_admitted))
    ]
  where
    other : (u : ℕ) → u < t → (t == u) ≡ false
    other u h = grind (arith, common_steps)

-- nor was it routed before
pub unrouted : {A : Type 0} (s : Config) (past : List (Step A)) (t : ℕ) → IsLegal s past → length (tickets past) ≤ t → is_routed past t ≡ false
unrouted s [] t legal late = refl
unrouted s (step ∷ past) t legal late =
    let few : length (tickets past) ≤ t = omega (arith, late, length-append (tickets past) (option_to_list (admitted_of step.reply))) in
    rw (unrouted_more s past t step.event step.reply legal.1 legal.0 few) (unrouted s past t legal.1 few)

-- the tickets in flight after one more legal step
pub flying_more : {A : Type 0} (s : Config) (past : List (Step A)) (step : Step A) → IsLegal s past → answer s past step.event ≡ Ok step.reply
    → flying (step ∷ past) ≡ flying_after step.event step.reply (flying past)
flying_more {A} s past step legal e =
    let still : ℕ → Bool = λ t. not (is_route t step.event || is_routed past t) in
    let given : List ℕ = option_to_list (admitted_of step.reply) in
    let n : ℕ = length (tickets past) in
    let apart : filter still (tickets past) ≡ filter (λ t. not (is_route t step.event)) (flying past) =
    filter_agree still (λ t. not (is_route t step.event) && not (is_routed past t)) (λ t. neither (is_route t step.event) (is_routed past t)) (tickets past)
    ∙ filter_both (λ t. not (is_route t step.event)) (λ t. not (is_routed past t)) (tickets past) in
    let new : filter still given ≡ given =
    elim (gives_next s past step.event step.reply e) as (λ x. filter still given ≡ given) [
      | inl none ↦ ap (λ o. filter still (option_to_list o)) none ∙ sym (ap option_to_list none)
      | inr next ↦
          ap (λ o. filter still (option_to_list o)) next
          ∙ ap (λ b. cond (not (b || is_routed past n)) (n ∷ []) []) (unrouted_more s past n step.event step.reply legal e (omega arith))
          ∙ ap (λ b. cond (not b) (n ∷ []) []) (unrouted s past n legal (omega arith))
          ∙ sym (ap option_to_list next)
    ] in
    filter-append still (tickets past) given ∙ ap (λ ts. ts ++ filter still given) apart ∙ ap (λ ts. filter (λ t. not (is_route t step.event)) (flying past) ++ ts) new
  where
    neither : (a b : Bool) → not (a || b) ≡ (not a && not b)
    neither true b = refl
    neither false b = refl
