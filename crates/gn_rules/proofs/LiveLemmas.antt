-- The connections of a legal history are numbered 1, 2 and so on.
use Rattle.std.proofs.Common.{◌≡◌, ◌==◌, ◌+◌, ◌^◌, ◌<◌, ◌≤◌, ℕ, Bool, true, false, cond, List, [], ◌∷◌, ◌++◌, length, length-append, Some, None, Result, Ok, Err, ◌⊎◌, inl, inr, refl, sym, ap, ◌∙◌, subst, arith}
use Rattle.std.specs.List.{All}
use Rattle.std.specs.Option.{option_to_list}
use Rattle.std.proofs.lemmas.List.{append-nil}
use Rattle.std.proofs.lemmas.List.Elements.{All-from_get_or}
use Rattle.std.proofs.lemmas.List.Kept.{IsStrictlyIncreasing-filter}
use Rattle.gn_rules.specs.declared.config.Config.{Config}
use Rattle.gn_rules.specs.declared.event.Event.{Event}
use Rattle.gn_rules.specs.declared.event.Event.TheVariants.{Connect, Close, Admit, Route, Take, Originate}
use Rattle.gn_rules.specs.declared.receipt.Step.{Step}
use Rattle.gn_rules.specs.declared.refusal.Refusal.{Refusal}
use Rattle.gn_rules.specs.declared.refusal.Refusal.TheVariants.{HistoryFull}
use Rattle.gn_rules.specs.declared.reply.Reply.{Reply}
use Rattle.gn_rules.specs.declared.reply.Reply.TheVariants.{Connected, TooMany}
use Rattle.gn_rules.specs.Answer.{answer, decision_reply, IsLegal}
use Rattle.gn_rules.specs.Decision.{Decision, Drop, decide}
use Rattle.gn_rules.specs.Flight.{Admission}
use Rattle.gn_rules.specs.History.{connected_of, live, live_connections, connections}
use Rattle.gn_rules.specs.Laws.{LiveConnectionsRise}
use Rattle.gn_rules.proofs.AnswerLemmas.{answered}
use Rattle.gn_rules.proofs.LegalLemmas.{legal_within, others_differ}
use Rattle.gn_rules.proofs.NumberLemmas.{AreCounted, counted_more}
use Rattle.gn_rules.proofs.StepLemmas.{live_connections-connected}

pub decision_connects : {A : Type 0} (s : Config) (past : List (Step A)) (a : Admission) (decision : Decision) → connected_of (decision_reply s past a decision) ≡ None
decision_connects s past a (Drop reason) = refl
decision_connects s past a decision = refl

-- a Connect that got this number, while more connections might be live
record ConnectsNext {A : Type 0} (s : Config) (past : List (Step A)) (event : Event A) (reply : Reply A) : Type 0 where
  event_is : event ≡ Connect
  reply_is : reply ≡ Connected (1 + length (connections past))
  room : (length (live_connections past) == s.numbers.neighbours) ≡ false

connects_one : {A : Type 0} (full crowded : Bool) (c : ℕ) (reply : Reply A)
    → cond {A = Result (Reply A) Refusal} full (Err HistoryFull) (cond crowded (Ok TooMany) (Ok (Connected c))) ≡ Ok reply
    → (reply ≡ TooMany) ⊎ ((crowded ≡ false) × (reply ≡ Connected c))
connects_one true crowded c reply e = absurd (cc)
connects_one false true c reply e = let is : reply ≡ TooMany = cc in inl is
connects_one false false c reply e = let is : reply ≡ Connected c = cc in inr (refl, is)

-- an answered event connects nothing, or is a Connect that gets the next number
connects_room : {A : Type 0} (s : Config) (past : List (Step A)) (event : Event A) (reply : Reply A) → answer s past event ≡ Ok reply
    → (connected_of reply ≡ None) ⊎ ConnectsNext s past event reply
connects_room {A} s past Connect reply e =
    elim (connects_one (length past == s.numbers.steps) (length (live_connections past) == s.numbers.neighbours) (1 + length (connections past)) reply e)
    as (λ x. (connected_of reply ≡ None) ⊎ ConnectsNext {A = A} s past Connect reply) [
      | inl is ↦ inl (ap connected_of is)
      | inr made ↦ inr (record { event_is = refl; reply_is = made.1; room = made.0 })
    ]
connects_room s past (Close c) reply e = inl (ap connected_of (answered s past (Close c) reply e).1)
connects_room s past (Admit c d) reply e =
    elim ((answered s past (Admit c d) reply e).1) as (λ x. (connected_of reply ≡ None) ⊎ ConnectsNext s past (Admit c d) reply) [
      | inl is ↦ inl (ap connected_of is)
      | inr (inl is) ↦ inl (ap connected_of is)
      | inr (inr is) ↦ inl (ap connected_of is)
    ]
connects_room s past (Route t) reply e =
    let routed = answered s past (Route t) reply e in
    inl (ap connected_of routed.reply_is ∙ decision_connects s past routed.admitted (decide s past routed.admitted))
connects_room s past (Take c) reply e = inl (ap connected_of ((answered s past (Take c) reply e).1.reply_is))
connects_room s past (Originate d) reply e = inl (ap connected_of (answered s past (Originate d) reply e))

-- an answered event connects nothing, or the next number
pub connects_next : {A : Type 0} (s : Config) (past : List (Step A)) (event : Event A) (reply : Reply A) → answer s past event ≡ Ok reply
    → (connected_of reply ≡ None) ⊎ (connected_of reply ≡ Some (1 + length (connections past)))
connects_next s past event reply e =
    elim (connects_room s past event reply e) as (λ x. (connected_of reply ≡ None) ⊎ (connected_of reply ≡ Some (1 + length (connections past)))) [
      | inl none ↦ inl none
      | inr next ↦ inr (ap connected_of next.reply_is)
    ]

pub connections_counted : {A : Type 0} (s : Config) (past : List (Step A)) → IsLegal s past → AreCounted 1 (connections past)
connections_counted s [] legal = λ k within. absurd (omega (arith, within))
connections_counted s (step ∷ past) legal =
    let before = connections_counted s past legal.1 in
    elim (connects_next s past step.event step.reply legal.0) as (λ x. AreCounted 1 (connections past ++ option_to_list (connected_of step.reply))) [
      | inl none ↦ rw (none, append-nil (connections past)) before
      | inr next ↦ rw next (counted_more 1 (1 + length (connections past)) (connections past) before refl)
    ]

pub live_connections_rise : (A : Type 0) → LiveConnectionsRise A
live_connections_rise A s past legal =
    let counted = connections_counted s past legal in
    IsStrictlyIncreasing-filter (live past) (connections past) (λ k within. omega (arith, within, counted k (omega (arith, within)), counted (k + 1) within))

-- a history of Connects alone, of which each got a number: all of its connections are live
record AllConnect {A : Type 0} (s : Config) (past : List (Step A)) : Type 0 where
  few : length (connections past) ≤ s.numbers.neighbours
  all : length (connections past) ≡ length past
  alive : length (live_connections past) ≡ length (connections past)

abbrev HasFew : {A : Type 0} → Config → List (Step A) → Type 0
HasFew s past = (length (connections past) < length past) ⊎ AllConnect s past

few_kept : {A : Type 0} (s : Config) (past : List (Step A)) (step : Step A) → connected_of step.reply ≡ None → HasFew s past → HasFew s (step ∷ past)
few_kept s past step none before =
    let same : connections (step ∷ past) ≡ connections past = ap (λ o. connections past ++ option_to_list o) none ∙ append-nil (connections past) in
    let within : length (connections past) ≤ length past =
    elim before as (λ x. length (connections past) ≤ length past) [ inl less ↦ omega (arith, less) | inr all ↦ omega (arith, all.all) ] in
    inl (omega (arith, ap length same, within))

few_connected : {A : Type 0} (s : Config) (past : List (Step A)) (actor c : ℕ) → c ≡ 1 + length (connections past) → (length (live_connections past) == s.numbers.neighbours) ≡ false
    → AreCounted 1 (connections past) → HasFew s past → HasFew s (record { actor = actor; event = Connect; reply = Connected c } ∷ past)
few_connected {A} s past actor c next room counted before =
    let below : All (λ d. d < c) (connections past) = All-from_get_or (λ d. d < c) (connections past) 0 (λ k within. omega (arith, within, counted k within, next)) in
    let longer : length (connections past ++ c ∷ []) ≡ length (connections past) + 1 = length-append (connections past) (c ∷ []) in
    let one_more = ap length (live_connections-connected past actor c below) ∙ length-append (live_connections past) (c ∷ []) in
    elim before as (λ x. HasFew {A = A} s (record { actor = actor; event = Connect; reply = Connected c } ∷ past)) [
      | inl less ↦ inl (omega (arith, less, longer))
      | inr all ↦ inr (record {
        few = omega (arith, longer, all.alive, others_differ (length (live_connections past)) s.numbers.neighbours room (omega (arith, all.alive, all.few)));
        all = omega (arith, longer, all.all);
        alive = omega (arith, longer, all.alive, one_more);
      })
    ]

few_more : {A : Type 0} (s : Config) (past : List (Step A)) (actor : ℕ) (event : Event A) (reply : Reply A) → answer s past event ≡ Ok reply → AreCounted 1 (connections past) → HasFew s past
    → HasFew s (record { actor = actor; event = event; reply = reply } ∷ past)
few_more {A} s past actor event reply e counted before =
    elim (connects_room s past event reply e) as (λ x. HasFew {A = A} s (record { actor = actor; event = event; reply = reply } ∷ past)) [
      | inl none ↦ few_kept s past (record { actor = actor; event = event; reply = reply }) none before
      | inr one ↦ subst (λ (o : Event A). HasFew {A = A} s (record { actor = actor; event = o; reply = reply } ∷ past)) (sym one.event_is)
          (subst (λ (r : Reply A). HasFew {A = A} s (record { actor = actor; event = Connect; reply = r } ∷ past)) (sym one.reply_is)
          (few_connected s past actor (1 + length (connections past)) refl one.room counted before))
    ]

-- a legal history has fewer connections than steps, or it is of Connects alone
connections_few : {A : Type 0} (s : Config) (past : List (Step A)) → IsLegal s past → HasFew s past
connections_few s [] legal = inr (record { few = omega arith; all = refl; alive = refl })
connections_few s (step ∷ past) legal =
    few_more s past step.actor step.event step.reply legal.0 (connections_counted s past legal.1) (connections_few s past legal.1)

-- a u32 holds the number that the next connection gets, also where the history is full
pub next_fits : {A : Type 0} (s : Config) (past : List (Step A)) → IsLegal s past → 1 + length (connections past) < 2 ^ 32
next_fits s past legal =
    elim (connections_few s past legal) as (λ x. 1 + length (connections past) < 2 ^ 32) [
      | inl less ↦ omega (arith, less, legal_within s past legal, s.within.steps.greatest)
      | inr all ↦ omega (arith, all.few, s.within.neighbours.greatest)
    ]
