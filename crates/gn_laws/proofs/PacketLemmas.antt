-- What was queued is what was taken and what waits.
use Rattle.std.proofs.Common.{◌≡◌, ◌==◌, ℕ, true, false, ◌&&◌, ◌||◌, List, [], ◌∷◌, ◌++◌, length, Some, Ok, inl, inr, refl, sym, ap, ◌∙◌, arith, append_assoc}
use Rattle.std.proofs.lemmas.Bool.{and_parts, or_cases}
use Rattle.std.proofs.lemmas.List.{append-nil}
use Rattle.std.proofs.lemmas.Map.Views.{exact_unsigned_eq}
use Rattle.gn_wire.specs.Packet.{Packet}
use Rattle.gn_rules.specs.declared.config.Config.{Config}
use Rattle.gn_rules.specs.declared.event.Event.{Event}
use Rattle.gn_rules.specs.declared.event.Event.TheVariants.{Connect, Close, Admit, Route, Take, Originate}
use Rattle.gn_rules.specs.declared.receipt.Step.{Step}
use Rattle.gn_rules.specs.declared.reply.Reply.{Reply}
use Rattle.gn_rules.specs.Answer.{answer}
use Rattle.gn_rules.specs.History.{closed_of, is_at, is_close, is_take, sends_of, taken_of, live}
use Rattle.gn_rules.specs.Output.{out, queued, queued_to, taken}
use Rattle.gn_laws.specs.Connections.{is_closed}
use Rattle.gn_laws.specs.Packets.{is_drained, DrainedTookAll, QueuedIsTakenAndWaiting}
use Rattle.gn_rules.proofs.AnswerLemmas.{answered}
use Rattle.gn_laws.proofs.ConnectionLemmas.{close_sends, closed_stays_closed, sends_none, take_live}

-- a step that takes nothing from c
kept : {A : Type 0} (past : List (Step A)) (step : Step A) (c : ℕ) → is_take c step.event ≡ false → queued past c ≡ taken past c ++ out past c → queued (step ∷ past) c ≡ taken (step ∷ past) c ++ out (step ∷ past) c
kept past step c none before =
    let new : List Packet = queued_to c (sends_of step.reply) in
    let all : queued past c ++ new ≡ (taken past c ++ []) ++ (out past c ++ new) =
    ap (λ ps. ps ++ new) before ∙ append_assoc (taken past c) (out past c) new ∙ ap (λ ps. ps ++ (out past c ++ new)) (sym (append-nil (taken past c))) in
    rw none all

-- a step that takes the first packet of c
took_first : {A : Type 0} (past : List (Step A)) (step : Step A) (c : ℕ) (p : Packet) (ps : List Packet) → is_take c step.event ≡ true → out past c ≡ p ∷ ps → taken_of step.reply ≡ Some p → sends_of step.reply ≡ []
    → queued past c ≡ taken past c ++ out past c → queued (step ∷ past) c ≡ taken (step ∷ past) c ++ out (step ∷ past) c
took_first past step c p ps taking first gave none before =
    let all : queued past c ++ [] ≡ (taken past c ++ p ∷ []) ++ (ps ++ []) =
    append-nil (queued past c) ∙ before ∙ ap (λ qs. taken past c ++ qs) first ∙ sym (append_assoc (taken past c) (p ∷ []) ps) ∙ ap (λ qs. (taken past c ++ p ∷ []) ++ qs) (sym (append-nil ps)) in
    rw (taking, gave, none, first) all

step_keeps : {A : Type 0} (s : Config) (past : List (Step A)) (actor c : ℕ) (event : Event A) (reply : Reply A) → answer s past event ≡ Ok reply → queued past c ≡ taken past c ++ out past c
    → queued (record { actor = actor; event = event; reply = reply } ∷ past) c ≡ taken (record { actor = actor; event = event; reply = reply } ∷ past) c ++ out (record { actor = actor; event = event; reply = reply } ∷ past) c
step_keeps s past actor c Connect reply e before = kept past (record { actor = actor; event = Connect; reply = reply }) c refl before
step_keeps s past actor c (Close d) reply e before = kept past (record { actor = actor; event = Close d; reply = reply }) c refl before
step_keeps s past actor c (Admit d packet) reply e before = kept past (record { actor = actor; event = Admit d packet; reply = reply }) c refl before
step_keeps s past actor c (Route t) reply e before = kept past (record { actor = actor; event = Route t; reply = reply }) c refl before
step_keeps s past actor c (Originate packet) reply e before = kept past (record { actor = actor; event = Originate packet; reply = reply }) c refl before
step_keeps {A} s past actor c (Take d) reply e before =
    let step : Step A = record { actor = actor; event = Take d; reply = reply } in
    elim (c == d) as (λ b. (c == d) ≡ b → queued (step ∷ past) c ≡ taken (step ∷ past) c ++ out (step ∷ past) c) [
      | false ↦ λ h. kept past step c h before
      | true ↦ λ h.
          let first = (answered s past (Take d) reply e).1 in
          took_first past step c first.packet first.after h (ap (out past) (exact_unsigned_eq c d h) ∙ first.first) (ap taken_of first.reply_is) (ap sends_of first.reply_is) before
    ] refl

pub queued_is_taken_and_waiting : (A : Type 0) → QueuedIsTakenAndWaiting A
queued_is_taken_and_waiting A s [] c legal = refl
queued_is_taken_and_waiting A s (step ∷ past) c legal = step_keeps s past step.actor c step.event step.reply legal.0 (queued_is_taken_and_waiting A s past c legal.1)

-- a Close replied Closed(0) found that nothing waits
nothing_waits : {A : Type 0} (s : Config) (past : List (Step A)) (event : Event A) (reply : Reply A) (c : ℕ) → answer s past event ≡ Ok reply → is_close c event ≡ true → is_at 0 (closed_of reply) ≡ true → out past c ≡ []
nothing_waits s past (Close d) reply c e closing zero =
    let is : c ≡ d = exact_unsigned_eq c d closing in
    let none : (0 == length (out past d)) ≡ true = ap (λ r. is_at 0 (closed_of r)) (sym (answered s past (Close d) reply e).1) ∙ zero in
    ap (out past) is ∙ empty (out past d) none
  where
    empty : (ps : List Packet) → (0 == length ps) ≡ true → ps ≡ []
    empty [] h = refl
    empty (p ∷ ps) h = let same : 0 ≡ length (p ∷ ps) = exact_unsigned_eq 0 (length (p ∷ ps)) h in absurd (omega (arith, same))
nothing_waits s past event reply c e closing zero = absurd (cc)

-- a step that neither takes from c nor queues to it
same_after : {A : Type 0} (past : List (Step A)) (step : Step A) (c : ℕ) → queued_to c (sends_of step.reply) ≡ [] → is_take c step.event ≡ false → taken past c ≡ queued past c → taken (step ∷ past) c ≡ queued (step ∷ past) c
same_after past step c none no_take before = rw (none, no_take) (append-nil (taken past c) ∙ before ∙ sym (append-nil (queued past c)))

-- a drained connection is closed
drained_closed : {A : Type 0} (past : List (Step A)) (c : ℕ) → is_drained past c ≡ true → is_closed past c ≡ true
drained_closed [] c h = cc
drained_closed (step ∷ past) c h =
    let rest : is_drained past c ≡ true → is_closed past c ≡ true = drained_closed past c in
    elim (is_close c step.event) as (λ b. ((b && is_at 0 (closed_of step.reply)) || is_drained past c) ≡ true → (b || is_closed past c) ≡ true) [
      | true ↦ λ e. refl
      | false ↦ λ e. rest e
    ] h

pub drained_took_all : (A : Type 0) → DrainedTookAll A
drained_took_all A s [] c legal h = cc
drained_took_all A s (step ∷ past) c legal h =
    elim (or_cases (is_close c step.event && is_at 0 (closed_of step.reply)) (is_drained past c) h) as (λ x. taken (step ∷ past) c ≡ queued (step ∷ past) c) [
      | inl here ↦
          let parts = and_parts (is_close c step.event) (is_at 0 (closed_of step.reply)) here in
          let sends = close_sends s past step.event step.reply c legal.0 parts.0 in
          let waits = nothing_waits s past step.event step.reply c legal.0 parts.0 parts.1 in
          let all : taken past c ≡ queued past c =
          sym (queued_is_taken_and_waiting A s past c legal.1 ∙ ap (λ ps. taken past c ++ ps) waits ∙ append-nil (taken past c)) in
          same_after past step c (ap (queued_to c) sends.0) sends.1 all
      | inr before ↦
          let dead : live past c ≡ false = (closed_stays_closed A s past c legal.1).closed (drained_closed past c before) in
          same_after past step c (sends_none s past step.event step.reply c legal.0 dead) (take_live s past step.event step.reply c legal.0 dead) (drained_took_all A s past c legal.1 before)
    ]
