-- What waits is what was queued, less what was taken.
use Rattle.std.proofs.Common.{◌≡◌, ◌≤◌, ◌<◌, ◌+◌, ◌==◌, ℕ, true, false, List, [], ◌∷◌, ◌++◌, length, drop, Ok, refl, sym, ap, ◌∙◌, arith, add-zero, length-append, length-drop}
use Rattle.std.proofs.lemmas.List.{append-nil, drop-append-le, drop-drop}
use Rattle.std.proofs.lemmas.Map.Views.{exact_unsigned_eq}
use Rattle.gn_wire.specs.Packet.{Packet}
use Rattle.gn_rules.specs.declared.config.Config.{Config}
use Rattle.gn_rules.specs.declared.event.Event.{Event}
use Rattle.gn_rules.specs.declared.event.Event.TheVariants.{Connect, Close, Admit, Route, Take, Originate}
use Rattle.gn_rules.specs.declared.receipt.Step.{Step}
use Rattle.gn_rules.specs.declared.reply.Reply.{Reply}
use Rattle.gn_rules.specs.Answer.{answer, IsLegal}
use Rattle.gn_rules.specs.History.{is_take, sends_of}
use Rattle.gn_rules.specs.Laws.{OutputIsUntaken}
use Rattle.gn_rules.specs.Output.{out, queued, takes, queued_to}
use Rattle.gn_rules.proofs.AnswerLemmas.{take_reply}

-- what waits is the queue without the packets that were taken, and no more were taken than queued
record IsUntaken {A : Type 0} (past : List (Step A)) (c : ℕ) : Type 0 where
  few : takes past c ≤ length (queued past c)
  rest : out past c ≡ drop (takes past c) (queued past c)

-- an answered take found a packet, and its reply sends nothing
taken_one : {A : Type 0} (s : Config) (past : List (Step A)) (c : ℕ) (reply : Reply A) → answer s past (Take c) ≡ Ok reply
    → (0 < length (out past c)) × (sends_of reply ≡ [])
taken_one s past c reply e =
    let first = take_reply s past reply c e in
    (omega (arith, ap length first.first), ap sends_of first.reply_is)

-- one step that takes nothing from c
kept : {A : Type 0} (past : List (Step A)) (step : Step A) (c : ℕ) → is_take c step.event ≡ false → IsUntaken past c → IsUntaken (step ∷ past) c
kept {A} past step c none before =
    let new : List Packet = queued_to c (sends_of step.reply) in
    let rest : out past c ++ new ≡ drop (takes past c + 0) (queued past c ++ new) =
    ap (λ (xs : List Packet). xs ++ new) before.rest
    ∙ sym (drop-append-le (takes past c) (queued past c) new before.few)
    ∙ ap (λ (n : ℕ). drop n (queued past c ++ new)) (sym (add-zero (takes past c))) in
    let few : takes past c + 0 ≤ length (queued past c ++ new) = omega (arith, before.few, length-append (queued past c) new) in
    record { few = rw none few; rest = rw none rest }

-- one step that takes from c
took : {A : Type 0} (past : List (Step A)) (step : Step A) (c : ℕ) → is_take c step.event ≡ true → 0 < length (out past c) → sends_of step.reply ≡ []
    → IsUntaken past c → IsUntaken (step ∷ past) c
took past step c taken some none before =
    let n : ℕ = takes past c in
    let q : List Packet = queued past c in
    let below : n < length q = omega (arith, some, ap length before.rest, length-drop n q) in
    let rest : drop 1 (out past c) ++ [] ≡ drop (n + 1) (q ++ []) =
    append-nil (drop 1 (out past c)) ∙ ap (drop 1) before.rest ∙ drop-drop 1 n q ∙ ap (drop (n + 1)) (sym (append-nil q)) in
    let few : n + 1 ≤ length (q ++ []) = rw (append-nil q) (omega (arith, below)) in
    record { few = rw (taken, none) few; rest = rw (taken, none) rest }

-- one step of a legal history
untaken_more : {A : Type 0} (s : Config) (past : List (Step A)) (actor c : ℕ) (event : Event A) (reply : Reply A) → answer s past event ≡ Ok reply
    → IsUntaken past c → IsUntaken (record { actor = actor; event = event; reply = reply } ∷ past) c
untaken_more s past actor c Connect reply answered before = kept past _ c refl before
untaken_more s past actor c (Close d) reply answered before = kept past _ c refl before
untaken_more s past actor c (Admit d packet) reply answered before = kept past _ c refl before
untaken_more s past actor c (Route t) reply answered before = kept past _ c refl before
untaken_more s past actor c (Originate packet) reply answered before = kept past _ c refl before
untaken_more s past actor c (Take d) reply answered before =
    elim (c == d) as (λ b. (c == d) ≡ b → IsUntaken (record { actor = actor; event = Take d; reply = reply } ∷ past) c) [
      | false ↦ λ e. kept past (record { actor = actor; event = Take d; reply = reply }) c e before
      | true ↦ λ e.
          let one : (0 < length (out past d)) × (sends_of reply ≡ []) = taken_one s past d reply answered in
          let there : c ≡ d = exact_unsigned_eq c d e in
          took past (record { actor = actor; event = Take d; reply = reply }) c e (rw there one.0) one.1 before
    ] refl

all_untaken : {A : Type 0} (s : Config) (past : List (Step A)) (c : ℕ) → IsLegal s past → IsUntaken past c
all_untaken s [] c legal = record { few = omega arith; rest = refl }
all_untaken s (step ∷ past) c legal = untaken_more s past step.actor c step.event step.reply legal.0 (all_untaken s past c legal.1)

pub output_is_untaken : (A : Type 0) → OutputIsUntaken A
output_is_untaken A s past c legal = (all_untaken s past c legal).rest
