-- Tickets that are routed one by one, and those that are in flight.
use Rattle.std.proofs.Common.{◌≡◌, ◌+◌, ◌<◌, ◌≤◌, ◌==◌, ◌++◌, ℕ, zero, suc, Bool, true, false, not, cond, List, [], ◌∷◌, length, filter, reverse, Option, Some, None, is_some, Result, Ok, Err, inl, inr, refl, sym, ap, ◌∙◌, arith, subst, append_assoc, append-nil, length-append}
use Rattle.std.specs.Prelude.{IfOk, ok_or, option_map}
use Rattle.std.specs.Option.{option_to_list}
use Rattle.std.proofs.lemmas.Bool.Decides.{nat_tests}
use Rattle.std.proofs.lemmas.List.{length-reverse, reverse-append}
use Rattle.std.proofs.lemmas.List.Elements.{filter-append}
use Rattle.std.proofs.lemmas.List.Sums.{sum_by-cons}
use Rattle.gn_rules.specs.declared.config.Config.{Config}
use Rattle.gn_rules.specs.declared.event.Event.{Event}
use Rattle.gn_rules.specs.declared.event.Event.TheVariants.{Connect, Close, Admit, Route, Take, Originate}
use Rattle.gn_rules.specs.declared.receipt.Step.{Step}
use Rattle.gn_rules.specs.declared.refusal.Refusal.{Refusal}
use Rattle.gn_rules.specs.declared.refusal.Refusal.TheVariants.{HistoryFull, NoTicket}
use Rattle.gn_rules.specs.declared.reply.DropReason.TheVariants.{UnknownKind}
use Rattle.gn_rules.specs.declared.reply.Reply.{Reply}
use Rattle.gn_rules.specs.declared.reply.Reply.TheVariants.{Admitted, Dropped}
use Rattle.gn_rules.specs.declared.statistics.Counter.TheVariants as counter
use Rattle.gn_rules.specs.Answer.{answer, decision_reply, event_answer, IsLegal}
use Rattle.gn_rules.specs.Decision.{decide}
use Rattle.gn_rules.specs.Flight.{Admission, admission, admission_of, flying, in_flight, is_routed, tickets}
use Rattle.gn_rules.specs.History.{admitted_of, is_at}
use Rattle.gn_rules.specs.Statistics.{count_in, counter_of, is_same_counter, stats_of}
use Rattle.gn_rules.proofs.AnswerLemmas.{answered, routed_reply}
use Rattle.gn_rules.proofs.FlightLemmas.{gives_next, moves_tickets}
use Rattle.gn_text.specs.Refusals.{refusal_text}
use Rattle.gn_replay.specs.Events.{followed, happens}
use Rattle.gn_replay.specs.Playing.{Playing, after_playing}
use Rattle.gn_replay.specs.Routes.{routes}
use Rattle.gn_replay.proofs.AdmitLemmas.{after_playing_both, after_playing_nothing}

-- a loop over the tickets, where those of `left` are still to be routed
abbrev pub IsRouting : {A : Type 0} → Playing A → Playing A → List ℕ → List ℕ → Type 0
IsRouting before now left all =
    after_playing now (routes now.settings now.past left) ≡ after_playing before (routes before.settings before.past all)

-- none was routed yet
pub routing_start : {A : Type 0} (v : Playing A) (left all : List ℕ) → left ≡ all → IsRouting v v left all
routing_start v left all whole = ap (λ (ts : List ℕ). after_playing v (routes v.settings v.past ts)) whole

-- the next ticket was routed
pub routed_one : {A : Type 0} (before now after : Playing A) (t : ℕ) (here left all : List ℕ) → here ≡ t ∷ left → IsRouting before now here all
    → after ≡ after_playing now (happens now.settings now.past (Route t)) → IsRouting before after left all
routed_one before now after t here left all next so_far done =
    let first = happens now.settings now.past (Route t) in
    subst (λ (v : Playing _). IsRouting before v left all) (sym done)
    (after_playing_both now first (routes now.settings first.past left) ∙ subst (λ (ts : List ℕ). IsRouting before now ts all) next so_far)

-- none is left
pub routing_done : {A : Type 0} (before now : Playing A) (left all : List ℕ) → length left ≡ 0 → IsRouting before now left all
    → now ≡ after_playing before (routes before.settings before.past all)
routing_done before now [] all none so_far = sym (after_playing_nothing now) ∙ so_far
routing_done before now (t ∷ left) all none so_far = absurd (omega (arith, none))

-- what holds of a value, where there is one
pub ok_so : {T E : Type 0} {P Q : T → Type 0} (r : Result T E) → ((x : T) → P x → Q x) → IfOk r P → IfOk r Q
ok_so (Ok x) so p = so x p
ok_so (Err e) so p = tt

-- a full history refuses each ticket alike
pub routes_refused : {A : Type 0} (s : Config) (past : List (Step A)) (ts us : List ℕ) → (length past == s.numbers.steps) ≡ true → length ts ≡ length us
    → routes s past ts ≡ routes s past us
routes_refused s past [] [] full same = refl
routes_refused s past [] (u ∷ us) full same = absurd (omega (arith, same))
routes_refused s past (t ∷ ts) [] full same = absurd (omega (arith, same))
routes_refused {A} s past (t ∷ ts) (u ∷ us) full same =
    rw full (ap (followed {A = A} (record { past = past; text = refusal_text HistoryFull; lines = []; refusals = 1 })) (routes_refused s past ts us full (omega (arith, same))))

no_ticket : (o : Option ℕ) (n : ℕ) → o ≡ None → o ≡ Some n → ⊥
no_ticket None n none gives = cc
no_ticket (Some t) n none gives = cc

-- a ticket whose Route is answered is in flight
pub answered_flies : {A : Type 0} (s : Config) (past : List (Step A)) (t : ℕ) (reply : Reply A) → answer s past (Route t) ≡ Ok reply → true ≡ is_some (in_flight past t)
answered_flies s past t reply e = sym (ap is_some (routed_reply s past reply t e).found_is)

not_in_flight : {A : Type 0} (s : Config) (past : List (Step A)) (found : Option Admission) (refusal : Refusal)
    → ok_or (option_map (λ a. decision_reply {A = A} s past a (decide s past a)) found) NoTicket ≡ Err refusal → false ≡ is_some found
not_in_flight s past None refusal e = refl
not_in_flight s past (Some a) refusal e = absurd cc

-- where the history has room, one whose Route is refused isn't
pub refused_is_gone : {A : Type 0} (s : Config) (past : List (Step A)) (t : ℕ) (refusal : Refusal) → (length past == s.numbers.steps) ≡ false → answer s past (Route t) ≡ Err refusal
    → false ≡ is_some (in_flight past t)
refused_is_gone {A} s past t refusal room e =
    not_in_flight s past (in_flight past t) refusal (sym (ap (λ b. cond {A = Result (Reply A) Refusal} b (Err HistoryFull) (event_answer s past (Route t))) room) ∙ e)

-- what gives a ticket is an Admit
gives_admission : {A : Type 0} (s : Config) (past : List (Step A)) (event : Event A) (reply : Reply A) (n : ℕ) → answer s past event ≡ Ok reply → admitted_of reply ≡ Some n
    → is_some (admission_of event) ≡ true
gives_admission {A} s past Connect reply n e gives =
    elim (answered s past Connect reply e) as (λ x. is_some (admission_of {A = A} Connect) ≡ true) [
      | inl is ↦ absurd (no_ticket (admitted_of reply) n (ap admitted_of is) gives)
      | inr is ↦ absurd (no_ticket (admitted_of reply) n (ap admitted_of is) gives)
    ]
gives_admission s past (Close c) reply n e gives = absurd (no_ticket (admitted_of reply) n (ap admitted_of (answered s past (Close c) reply e).1) gives)
gives_admission s past (Admit c d) reply n e gives = refl
gives_admission {A} s past (Route t) reply n e gives =
    elim (moves_tickets s past (Route t) reply e) as (λ x. is_some (admission_of {A = A} (Route t)) ≡ true) [
      | inl leaves ↦ absurd (no_ticket (admitted_of reply) n leaves.gives gives)
      | inr (inl next) ↦ absurd (no_ticket (Some t) t next.routes refl)
      | inr (inr one) ↦ absurd (no_ticket (admitted_of reply) n one.gives gives)
    ]
gives_admission s past (Take c) reply n e gives = absurd (no_ticket (admitted_of reply) n (ap admitted_of (answered s past (Take c) reply e).1.reply_is) gives)
gives_admission s past (Originate d) reply n e gives = absurd (no_ticket (admitted_of reply) n (ap admitted_of (answered s past (Originate d) reply e)) gives)

-- under each ticket that was given something was admitted
given_admitted : {A : Type 0} (s : Config) (past : List (Step A)) (t : ℕ) → IsLegal s past → t < length (tickets past) → is_some (admission past t) ≡ true
given_admitted s [] t legal given = absurd (omega (arith, given))
given_admitted s (step ∷ past) t legal given =
    let n : ℕ = length (tickets past) in
    let sum = length-append (tickets past) (option_to_list (admitted_of step.reply)) in
    elim (gives_next s past step.event step.reply legal.0) as (λ x. is_some (cond (is_at t (admitted_of step.reply)) (admission_of step.event) (admission past t)) ≡ true) [
      | inl none ↦
          let few : length (option_to_list (admitted_of step.reply)) ≡ 0 = ap (λ o. length (option_to_list o)) none in
          rw none (given_admitted s past t legal.1 (omega (arith, given, sum, few)))
      | inr next ↦
          let one : length (option_to_list (admitted_of step.reply)) ≡ 1 = ap (λ o. length (option_to_list o)) next in
          elim (is_at t (admitted_of step.reply)) as (λ b. is_at t (admitted_of step.reply) ≡ b → is_some (cond b (admission_of step.event) (admission past t)) ≡ true) [
            | true ↦ λ e. gives_admission s past step.event step.reply n legal.0 next
            | false ↦ λ e. given_admitted s past t legal.1 (before t n (sym (ap (is_at t) next) ∙ e) (omega (arith, given, sum, one)))
          ] refl
    ]
  where
    before : (t n : ℕ) → (t == n) ≡ false → t ≤ n → t < n
    before t n other most = grind (arith, nat_tests)

-- a ticket that wasn't routed
abbrev pub is_unrouted : {A : Type 0} → List (Step A) → ℕ → Bool
is_unrouted past t = not (is_routed past t)

-- under a ticket that was given something is in flight unless it was routed
flies_unrouted : {A : Type 0} (s : Config) (past : List (Step A)) (t : ℕ) → IsLegal s past → t < length (tickets past) → is_some (in_flight past t) ≡ is_unrouted past t
flies_unrouted s past t legal given =
    elim (is_routed past t) as (λ b. is_some (cond b None (admission past t)) ≡ not b) [ true ↦ refl | false ↦ given_admitted s past t legal given ]

-- the numbers below n that are chosen, in order
abbrev pub below : (ℕ → Bool) → ℕ → List ℕ
below q zero = []
below q (suc n) = below q n ++ cond (q n) (n ∷ []) []

-- tickets count up from 0
chosen_below : {A : Type 0} (s : Config) (past : List (Step A)) (q : ℕ → Bool) → IsLegal s past → filter q (tickets past) ≡ below q (length (tickets past))
chosen_below s [] q legal = refl
chosen_below s (step ∷ past) q legal =
    let n : ℕ = length (tickets past) in
    let so_far = chosen_below s past q legal.1 in
    elim (gives_next s past step.event step.reply legal.0)
    as (λ x. filter q (tickets past ++ option_to_list (admitted_of step.reply)) ≡ below q (length (tickets past ++ option_to_list (admitted_of step.reply)))) [
      | inl none ↦ rw (none, append-nil (tickets past)) so_far
      | inr next ↦
          let longer : length (tickets past ++ n ∷ []) ≡ suc n = omega (arith, length-append (tickets past) (n ∷ [])) in
          rw next (filter-append q (tickets past) (n ∷ []) ∙ ap (λ ts. ts ++ cond (q n) (n ∷ []) []) so_far ∙ ap (below q) (sym longer))
    ]

-- a search from the newest ticket on, where the tickets below `next` are still to be looked at
pub record IsFinding {A : Type 0} (past : List (Step A)) (next : ℕ) (found : List ℕ) : Type 0 where
  pub within : next ≤ length (tickets past)
  pub flying_is : flying past ≡ below (is_unrouted past) next ++ reverse found

-- none was looked at
pub finding_start : {A : Type 0} (s : Config) (past : List (Step A)) (next : ℕ) (found : List ℕ) → IsLegal s past → next ≡ length (tickets past) → found ≡ []
    → IsFinding past next found
finding_start s past next found legal all none =
    rw (all, none) (record { within = omega arith; flying_is = chosen_below s past (is_unrouted past) legal ∙ sym (append-nil (below (is_unrouted past) (length (tickets past)))) })

module _ {A : Type 0} (s : Config) (past : List (Step A)) (t : ℕ) (found : List ℕ) (legal : IsLegal s past) (so_far : IsFinding past (suc t) found) where
  given : t < length (tickets past)
  given = omega (arith, so_far.within)

  -- the next one is in flight
  finding_there : is_some (in_flight past t) ≡ true → IsFinding past t (found ++ t ∷ [])
  finding_there there =
      let chosen : is_unrouted past t ≡ true = sym (flies_unrouted s past t legal given) ∙ there in
      record {
        within = omega (arith, given);
        flying_is =
            so_far.flying_is ∙ ap (λ b. (below (is_unrouted past) t ++ cond b (t ∷ []) []) ++ reverse found) chosen
            ∙ append_assoc (below (is_unrouted past) t) (t ∷ []) (reverse found) ∙ ap (λ ts. below (is_unrouted past) t ++ ts) (sym (reverse-append found (t ∷ [])));
      }

  -- the next one isn't
  finding_gone : is_some (in_flight past t) ≡ false → IsFinding past t found
  finding_gone gone =
      let other : is_unrouted past t ≡ false = sym (flies_unrouted s past t legal given) ∙ gone in
      record {
        within = omega (arith, given);
        flying_is =
            so_far.flying_is ∙ ap (λ b. (below (is_unrouted past) t ++ cond b (t ∷ []) []) ++ reverse found) other
            ∙ ap (λ ts. ts ++ reverse found) (append-nil (below (is_unrouted past) t));
      }

-- the next one was looked at
pub finding_more : {A : Type 0} (s : Config) (past : List (Step A)) (next t : ℕ) (found more : List ℕ) → IsLegal s past → IsFinding past next found → next ≡ suc t
    → more ≡ found ++ cond (is_some (in_flight past t)) (t ∷ []) [] → IsFinding past t more
finding_more s past next t found more legal so_far is adds =
    let here : IsFinding past (suc t) found = subst (λ (n : ℕ). IsFinding past n found) is so_far in
    elim (is_some (in_flight past t)) as (λ b. is_some (in_flight past t) ≡ b → more ≡ found ++ cond b (t ∷ []) [] → IsFinding past t more) [
      | true ↦ λ there grows. subst (λ (ts : List ℕ). IsFinding past t ts) (sym grows) (finding_there s past t found legal here there)
      | false ↦ λ gone grows. subst (λ (ts : List ℕ). IsFinding past t ts) (sym (grows ∙ append-nil found)) (finding_gone s past t found legal here gone)
    ] refl adds

-- all were found
pub finding_all : {A : Type 0} (past : List (Step A)) (next : ℕ) (found : List ℕ) → IsFinding past next found → length (flying past) ≤ length found → reverse found ≡ flying past
finding_all past next found so_far all =
    let rest : List ℕ = below (is_unrouted past) next in
    let none : length rest ≡ 0 = omega (arith, all, ap length so_far.flying_is, length-append rest (reverse found), length-reverse found) in
    sym (so_far.flying_is ∙ ap (λ ts. ts ++ reverse found) (empty rest none))
  where
    empty : (ts : List ℕ) → length ts ≡ 0 → ts ≡ []
    empty [] none = refl
    empty (t ∷ ts) none = absurd (omega (arith, none))

-- none is left to be looked at
pub finding_none : {A : Type 0} (past : List (Step A)) (next : ℕ) (found : List ℕ) → IsFinding past next found → next ≡ 0 → reverse found ≡ flying past
finding_none past next found so_far none = sym (so_far.flying_is ∙ ap (λ n. below (is_unrouted past) n ++ reverse found) none)

-- a reply counts as admitted where it gives a ticket
one_admitted : {A : Type 0} (reply : Reply A) → cond (is_same_counter (counter_of reply) counter.Admitted) 1 0 ≡ length (option_to_list (admitted_of reply))
one_admitted (Admitted t) = refl
one_admitted (Dropped UnknownKind) = refl
one_admitted (Dropped why) = refl
one_admitted reply = refl

-- one step more counts as its reply does
counted_more : {A : Type 0} (step : Step A) (past : List (Step A))
    → count_in counter.Admitted (stats_of (step ∷ past)) ≡ cond (is_same_counter (counter_of step.reply) counter.Admitted) 1 0 + count_in counter.Admitted (stats_of past)
counted_more {A} step past = sum_by-cons (λ (step : Step A). cond (is_same_counter (counter_of step.reply) counter.Admitted) 1 0) step past

-- as many were admitted as tickets were given
pub admitted_counted : {A : Type 0} (past : List (Step A)) → count_in counter.Admitted (stats_of past) ≡ length (tickets past)
admitted_counted [] = refl
admitted_counted (step ∷ past) =
    omega (arith, counted_more step past, one_admitted step.reply, admitted_counted past, length-append (tickets past) (option_to_list (admitted_of step.reply)))
