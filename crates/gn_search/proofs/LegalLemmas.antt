-- What holds of each legal history.
use Rattle.std.proofs.Common.{◌≡◌, ℕ, ◌+◌, ◌-◌, ◌<◌, ◌≤◌, Bool, true, false, cond, if◌then◌else◌, min, get_or, nat_lt, List, [], ◌∷◌, length, drop, take, reverse, Ok, inl, inr, refl, ap, ◌∙◌, arith, length-append, length-drop}
use Rattle.std.proofs.lemmas.Grind.{common_steps}
use Rattle.std.proofs.lemmas.List.Kept.{AllPairs-from_increasing}
use Rattle.gn_wire.specs.Packet.{Packet}
use Rattle.gn_rules.specs.declared.config.Config.{Config}
use Rattle.gn_rules.specs.declared.event.Event.{Event}
use Rattle.gn_rules.specs.declared.event.Event.TheVariants.{Connect, Close, Admit, Route, Take, Originate}
use Rattle.gn_rules.specs.declared.receipt.Step.{Step}
use Rattle.gn_rules.specs.declared.reply.Reply.{Reply}
use Rattle.gn_rules.specs.Answer.{answer, IsLegal}
use Rattle.gn_rules.specs.Decision.{decide}
use Rattle.gn_rules.specs.History.{is_take, sends_of, live_connections}
use Rattle.gn_rules.specs.Output.{out, queued_to}
use Rattle.gn_rules.proofs.LegalLemmas.{legal_take}
use Rattle.gn_rules.proofs.LiveLemmas.{live_connections_rise}
use Rattle.gn_rules.proofs.PastLemmas.{past_more}
use Rattle.gn_rules.proofs.AnswerLemmas.{connect_reply, close_reply, admit_reply, take_reply, originate_reply, routed_reply}
use Rattle.gn_search.proofs.SendLemmas.{count, count_once, IsSparse, none_sparse, fanout_sparse, decision_sparse}

-- a connection is live once
live_once : {A : Type 0} (s : Config) (past : List (Step A)) → IsLegal s past → (c : ℕ) → count c (live_connections past) ≤ 1
live_once {A} s past legal c = count_once c (live_connections past) (AllPairs-from_increasing (live_connections past) (live_connections_rise A s past legal))

-- an answered step queues at most one packet to c, and none where c has no room
answer_sparse : {A : Type 0} (s : Config) (past : List (Step A)) (c : ℕ) (event : Event A) (reply : Reply A) → IsLegal s past → answer s past event ≡ Ok reply
    → IsSparse s past c (sends_of reply)
answer_sparse s past c Connect reply legal e =
    elim (connect_reply s past reply e) as (λ x. IsSparse s past c (sends_of reply)) [ inl is ↦ rw is (none_sparse s past c) | inr is ↦ rw is (none_sparse s past c) ]
answer_sparse s past c (Close d) reply legal e = rw (close_reply s past reply d e) (none_sparse s past c)
answer_sparse s past c (Admit d packet) reply legal e =
    elim (admit_reply s past reply d packet e) as (λ x. IsSparse s past c (sends_of reply)) [ inl is ↦ rw is (none_sparse s past c) | inr (inl is) ↦ rw is (none_sparse s past c) | inr (inr is) ↦ rw is (none_sparse s past c) ]
answer_sparse s past c (Route t) reply legal e =
    let routed = routed_reply s past reply t e in
    rw routed.reply_is (decision_sparse s past c routed.admitted (decide s past routed.admitted) (live_once s past legal c))
answer_sparse s past c (Take d) reply legal e = rw ((take_reply s past reply d e).reply_is) (none_sparse s past c)
answer_sparse s past c (Originate d) reply legal e = rw (originate_reply s past reply d e) (fanout_sparse s past c 0 d (live_once s past legal c))

untaken_fewer : (b : Bool) (packets : List Packet) → length (if b then drop 1 packets else packets) ≤ length packets
untaken_fewer true packets = omega (arith, length-drop 1 packets)
untaken_fewer false packets = omega arith

is_room : (n m : ℕ) → nat_lt n m ≡ true → n < m
is_room n m h = grind (arith, common_steps)

-- no output is longer than it may be
pub out_within : {A : Type 0} (s : Config) (past : List (Step A)) (c : ℕ) → IsLegal s past → length (out past c) ≤ s.numbers.out
out_within s [] c legal = omega arith
out_within s (step ∷ past) c legal =
    let before = out_within s past c legal.1 in
    let fewer = untaken_fewer (is_take c step.event) (out past c) in
    let sparse = answer_sparse s past c step.event step.reply legal.1 legal.0 in
    let left : List Packet = if is_take c step.event then drop 1 (out past c) else out past c in
    let sum = length-append left (queued_to c (sends_of step.reply)) in
    elim (nat_lt (length (out past c)) s.numbers.out) as (λ b. nat_lt (length (out past c)) s.numbers.out ≡ b → length (out (step ∷ past) c) ≤ s.numbers.out) [
      | true ↦ λ h. omega (arith, sum, fewer, sparse.few, is_room (length (out past c)) s.numbers.out h)
      | false ↦ λ h. omega (arith, sum, fewer, before, sparse.full h)
    ] refl

out_length : {A : Type 0} (past : List (Step A)) (step : Step A) (c : ℕ)
    → length (out (step ∷ past) c) ≡ length (out past c) - (if is_take c step.event then 1 else 0) + length (queued_to c (sends_of step.reply))
out_length past step c =
    length-append (if is_take c step.event then drop 1 (out past c) else out past c) (queued_to c (sends_of step.reply))
    ∙ ap (λ n. n + length (queued_to c (sends_of step.reply))) (elim (is_take c step.event) as (λ b. length (if b then drop 1 (out past c) else out past c) ≡ length (out past c) - cond b 1 0) [ true ↦ length-drop 1 (out past c) | false ↦ omega arith ])

-- a count of what waits, one step on, is never cut off at the last number
pub out_more : {A : Type 0} (s : Config) (steps : List (Step A)) (i c before after : ℕ) (step : Step A) → IsLegal s (reverse steps) → i < length steps → step ≡ get_or steps i step
    → before ≡ length (out (reverse (take i steps)) c)
    → after ≡ min (before - (if is_take c step.event then 1 else 0) + length (queued_to c (sends_of step.reply))) 18446744073709551615
    → after ≡ length (out (reverse (take (i + 1) steps)) c)
out_more s steps i c before after step legal h e before_is after_is =
    let more : reverse (take (i + 1) steps) ≡ step ∷ reverse (take i steps) = past_more steps i step h e in
    let within : length (out (reverse (take (i + 1) steps)) c) ≤ s.numbers.out = out_within s (reverse (take (i + 1) steps)) c (legal_take s steps (i + 1) legal) in
    let longer : length (out (reverse (take (i + 1) steps)) c) ≡ length (out (reverse (take i steps)) c) - (if is_take c step.event then 1 else 0) + length (queued_to c (sends_of step.reply)) =
    ap (λ past. length (out past c)) more ∙ out_length (reverse (take i steps)) step c in
    omega (arith, s.within.out.greatest)
