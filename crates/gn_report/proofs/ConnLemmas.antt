-- In a legal history Connect alone is replied Connected.
use Rattle.std.proofs.Common.{◌≡◌, ◌<◌, ◌+◌, ◌==◌, ℕ, suc, Option, true, false, List, [], ◌∷◌, length, get_or, reverse, Some, None, Ok, inl, inr, refl, sym, ap, ◌∙◌, subst, arith, if◌then◌else◌}
use Rattle.std.specs.List.{AllByRecursion, cons_option, filter_map, slice_get}
use Rattle.std.specs.Option.{option_or}
use Rattle.std.proofs.lemmas.List.{reverse-reverse}
use Rattle.std.proofs.lemmas.List.Elements.{All-from_recursion, All-get_or}
use Rattle.std.proofs.lemmas.List.Sorted.{All-permutation, IsPermutation-reverse}
use Rattle.gn_rules.specs.declared.config.Config.{Config}
use Rattle.gn_rules.specs.declared.event.Event.{Event}
use Rattle.gn_rules.specs.declared.event.Event.TheVariants.{Connect, Close, Admit, Route, Take, Originate}
use Rattle.gn_rules.specs.declared.receipt.Receipt.{Receipt}
use Rattle.gn_rules.specs.declared.receipt.Step.{Step}
use Rattle.gn_rules.specs.declared.reply.Reply.{Reply}
use Rattle.gn_rules.specs.Answer.{answer, IsLegal}
use Rattle.gn_rules.specs.Decision.{decide}
use Rattle.gn_rules.specs.History.{connected_of, mine, mine_from}
use Rattle.gn_rules.proofs.AnswerLemmas.{answered}
use Rattle.gn_rules.proofs.LiveLemmas.{decision_connects}
use Rattle.gn_laws.specs.Owners.{known_conn}
use Rattle.gn_report.specs.BodyEnds.{is_connect}

-- the connection that an event made by its reply: a Connect, where it was replied Connected
abbrev pub made_by : {A : Type 0} → Event A → Reply A → Option ℕ
made_by event reply = if is_connect event then connected_of reply else None

-- the connection of the first Connect among receipts that was replied Connected
abbrev pub conn_made : {A : Type 0} → List (Receipt A) → Option ℕ
conn_made receipts = slice_get (filter_map (λ r. made_by r.event r.reply) receipts) 0

-- one receipt more
pub conn_more : {A : Type 0} (r : Receipt A) (receipts : List (Receipt A)) → conn_made (r ∷ receipts) ≡ option_or (made_by r.event r.reply) (conn_made receipts)
conn_more {A} r receipts =
    let rest : List ℕ = filter_map (λ (x : Receipt A). made_by x.event x.reply) receipts in
    elim (made_by r.event r.reply) as (λ o. slice_get (cons_option o rest) 0 ≡ option_or o (slice_get rest 0)) [
      | None ↦ refl
      | Some c ↦ refl
    ]

-- an answered event makes the connection that its reply says
answer_makes : {A : Type 0} (s : Config) (past : List (Step A)) (event : Event A) (reply : Reply A) → answer s past event ≡ Ok reply → made_by event reply ≡ connected_of reply
answer_makes s past Connect reply e = refl
answer_makes s past (Close c) reply e = sym (ap connected_of (answered s past (Close c) reply e).1)
answer_makes s past (Admit c d) reply e =
    elim ((answered s past (Admit c d) reply e).1) as (λ x. None ≡ connected_of reply) [
      | inl is ↦ sym (ap connected_of is)
      | inr (inl is) ↦ sym (ap connected_of is)
      | inr (inr is) ↦ sym (ap connected_of is)
    ]
answer_makes s past (Route t) reply e =
    let routed = answered s past (Route t) reply e in
    sym (ap connected_of routed.reply_is ∙ decision_connects s past routed.admitted (decide s past routed.admitted))
answer_makes s past (Take c) reply e = sym (ap connected_of ((answered s past (Take c) reply e).1.reply_is))
answer_makes s past (Originate d) reply e = sym (ap connected_of (answered s past (Originate d) reply e))

-- a step makes the connection that its reply says
abbrev Makes : {A : Type 0} → Step A → Type 0
Makes step = made_by step.event step.reply ≡ connected_of step.reply

all_make : {A : Type 0} (s : Config) (past : List (Step A)) → IsLegal s past → AllByRecursion Makes past
all_make s [] legal = tt
all_make s (step ∷ past) legal = (answer_makes s past step.event step.reply legal.0, all_make s past legal.1)

each_makes : {A : Type 0} (s : Config) (steps : List (Step A)) → IsLegal s (reverse steps) → (k : ℕ) (d : Step A) → k < length steps → Makes (get_or steps k d)
each_makes {A} s steps legal k d below =
    let past : List (Step A) = reverse steps in
    All-get_or Makes steps k d below (All-permutation Makes past steps (rw reverse-reverse at (IsPermutation-reverse past)) (All-from_recursion Makes past (all_make s past legal)))

-- so receipts of such steps name the same connection, by their replies alone or with their events
made_is_known : {A : Type 0} (a i : ℕ) (steps : List (Step A)) → ((k : ℕ) (d : Step A) → k < length steps → Makes (get_or steps k d)) → conn_made (mine_from a i steps) ≡ known_conn (mine_from a i steps)
made_is_known a i [] each = refl
made_is_known {A} a i (step ∷ steps) each =
    let r : Receipt A = record { index = i; event = step.event; reply = step.reply } in
    let more : List (Receipt A) = mine_from a (i + 1) steps in
    let rest = made_is_known a (i + 1) steps (λ k d below. each (suc k) d (omega (arith, below))) in
    elim (step.actor == a) as (λ b. conn_made (if b then r ∷ more else more) ≡ known_conn (if b then r ∷ more else more)) [
      | true ↦ conn_more r more ∙ ap (λ o. option_or o (conn_made more)) (each 0 step (omega arith)) ∙ ap (option_or (connected_of step.reply)) rest
      | false ↦ rest
    ]

-- in a legal history an actor's receipts name the same connection, by their replies alone or with their events
pub conn_is_known : {A : Type 0} (s : Config) (steps : List (Step A)) (a : ℕ) (receipts : List (Receipt A)) → IsLegal s (reverse steps) → receipts ≡ mine steps a → conn_made receipts ≡ known_conn receipts
conn_is_known {A} s steps a receipts legal own =
    subst (λ (rs : List (Receipt A)). conn_made rs ≡ known_conn rs) (sym own) (made_is_known a 0 steps (each_makes s steps legal))
