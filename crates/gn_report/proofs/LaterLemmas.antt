-- Nothing of what awaited readers did came after the Close of a drained connection.
use Rattle.std.proofs.Common.{◌≡◌, ◌≤◌, ◌<◌, ◌+◌, ◌-◌, ◌==◌, ℕ, zero, suc, Bool, true, false, not, ◌&&◌, ◌||◌, cond, ◌⊎◌, inl, inr, List, [], ◌∷◌, ◌++◌, drop, refl, sym, ap, ◌∙◌, arith}
use Rattle.std.specs.List.{list_all, list_any}
use Rattle.std.proofs.Math.Bool.{or-true}
use Rattle.std.proofs.lemmas.Bool.{and_parts, eq-eqb}
use Rattle.std.proofs.lemmas.List.Folds.{list_any-append}
use Rattle.gn_rules.specs.declared.event.Event.TheVariants.{Close}
use Rattle.gn_rules.specs.declared.receipt.Receipt.{Receipt}
use Rattle.gn_rules.specs.declared.receipt.Step.{Step}
use Rattle.gn_rules.specs.declared.reply.Reply.TheVariants.{Closed}
use Rattle.gn_rules.specs.History.{mine, mine_from}
use Rattle.gn_shake.specs.declared.role.Role.{Role}
use Rattle.gn_actors.specs.ActorState.{receipt}
use Rattle.gn_report.specs.Actors.{is_awaited_reader}
use Rattle.gn_actors.specs.Tallies.{last_place}
use Rattle.gn_actors.proofs.TallyLemmas.{last_push}
use Rattle.gn_report.proofs.ComparedLemmas.{is_last_close}

-- more receipts end no earlier
last_more : {A : Type 0} (r : Receipt A) (rs : List (Receipt A)) → last_place rs ≤ last_place (r ∷ rs)
last_more r [] = omega arith
last_more r (s ∷ rs) = omega arith

-- a receipt before others that end after it
before_others : {A : Type 0} (r : Receipt A) (rs : List (Receipt A)) → (rs ≡ []) ⊎ (r.index + 1 < last_place rs) → r.index < last_place (r ∷ rs)
before_others {A} r rs (inl none) = let alone = ap (λ (l : List (Receipt A)). last_place (r ∷ l)) none in omega (arith, alone)
before_others r rs (inr above) = let more = last_more r rs in omega (arith, more, above)

-- the receipt of a step that has this index
abbrev receipt_at : {A : Type 0} → ℕ → Step A → Receipt A
receipt_at i step = record { index = i; event = step.event; reply = step.reply }

-- an actor has no receipts of steps of which the first has index i, or they end after it
last_above : {A : Type 0} (a i : ℕ) (steps : List (Step A)) → (mine_from a i steps ≡ []) ⊎ (i < last_place (mine_from a i steps))
last_above a i [] = inl refl
last_above {A} a i (step ∷ steps) = by_actor (step.actor == a) (last_above a (i + 1) steps)
  where
    more : List (Receipt A)
    more = mine_from a (i + 1) steps

    by_actor : (b : Bool) → (more ≡ []) ⊎ (i + 1 < last_place more) → (cond b (receipt_at i step ∷ more) more ≡ []) ⊎ (i < last_place (cond b (receipt_at i step ∷ more) more))
    by_actor true rest = inr (before_others (receipt_at i step) more rest)
    by_actor false (inl none) = inl none
    by_actor false (inr above) = inr (omega (arith, above))

-- no step from a place on is of an actor whose receipts end before it
none_from : {A : Type 0} (a i m : ℕ) (steps : List (Step A)) → last_place (mine_from a i steps) ≤ i + m → list_all (λ step. not (step.actor == a)) (drop m steps) ≡ true
none_from a i zero [] low = refl
none_from a i (suc m) [] low = refl
none_from {A} a i zero (step ∷ steps) low = by_actor (step.actor == a) low (λ rest. none_from a (i + 1) 0 steps (omega (arith, rest)))
  where
    more : List (Receipt A)
    more = mine_from a (i + 1) steps

    by_actor : (b : Bool) → last_place (cond b (receipt_at i step ∷ more) more) ≤ i + 0 → (last_place more ≤ i → list_all (λ (x : Step A). not (x.actor == a)) steps ≡ true) → (not b && list_all (λ (x : Step A). not (x.actor == a)) steps) ≡ true
    by_actor true low later = let above = before_others (receipt_at i step) more (last_above a (i + 1) steps) in absurd (omega (arith, low, above))
    by_actor false low later = later (omega (arith, low))
none_from {A} a i (suc m) (step ∷ steps) low = none_from a (i + 1) m steps (by_actor (step.actor == a) low)
  where
    more : List (Receipt A)
    more = mine_from a (i + 1) steps

    by_actor : (b : Bool) → last_place (cond b (receipt_at i step ∷ more) more) ≤ i + suc m → last_place more ≤ (i + 1) + m
    by_actor true low = let rest = last_more (receipt_at i step) more in omega (arith, low, rest)
    by_actor false low = omega (arith, low)

none_after : {A : Type 0} (steps : List (Step A)) (a n : ℕ) → last_place (mine steps a) ≤ n → list_all (λ step. not (step.actor == a)) (drop n steps) ≡ true
none_after steps a n low = none_from a 0 n steps (omega (arith, low))

itself_not : {X : Type 0} (n : ℕ) → not (n == n) ≡ true → X
itself_not n other = let is : not true ≡ true = ap not (sym (eq-eqb n n refl)) ∙ other in absurd (cc)

-- where no step is of one of these actors, none is of any
none_of_these : {A : Type 0} (these : ℕ → Bool) (more : List (Step A)) → ((a : ℕ) → these a ≡ true → list_all (λ step. not (step.actor == a)) more ≡ true) → list_all (λ step. not (these step.actor)) more ≡ true
none_of_these these [] none = refl
none_of_these {A} these (step ∷ more) none =
    elim (these step.actor) as (λ b. these step.actor ≡ b → (not b && list_all (λ (x : Step A). not (these x.actor)) more) ≡ true) [
      | true ↦ λ is. itself_not step.actor (and_parts (not (step.actor == step.actor)) (list_all (λ (x : Step A). not (x.actor == step.actor)) more) (none step.actor is)).0
      | false ↦ λ is. none_of_these these more (λ a one. (and_parts (not (step.actor == a)) (list_all (λ (x : Step A). not (x.actor == a)) more) (none a one)).1)
    ] refl

-- the last receipt of a writer is of the Close of a drained connection, where nothing was in flight just before it and no awaited reader
-- made a later step
pub drained_close : {A : Type 0} (settled : ℕ → Bool) (roles : List Role) (steps : List (Step A)) (c index : ℕ) (before own : List (Receipt A)) → own ≡ before ++ receipt index (Close c) (Closed 0) ∷ []
    → settled (last_place own - 1) ≡ true → ((a : ℕ) → is_awaited_reader roles a ≡ true → last_place (mine steps a) < last_place own)
    → list_any (is_last_close settled roles steps c) own ≡ true
drained_close {A} settled roles steps c index before own is idle later =
    let last : Receipt A = receipt index (Close c) (Closed 0) in
    let place : last_place own ≡ index + 1 = ap last_place is ∙ last_push before last in
    let just : last_place own - 1 ≡ index = omega (arith, place) in
    let none : list_all (λ (step : Step A). not (is_awaited_reader roles step.actor)) (drop index steps) ≡ true =
    none_of_these (is_awaited_reader roles) (drop index steps) (λ a one. let low = later a one in none_after steps a index (omega (arith, low, place))) in
    let settles : settled index ≡ true = ap settled (sym just) ∙ idle in
    let here : is_last_close settled roles steps c last ≡ true = rw (eq-eqb c c refl, settles, none) refl in
    ap (list_any (is_last_close settled roles steps c)) is ∙ list_any-append (is_last_close settled roles steps c) before (last ∷ [])
    ∙ ap (λ b. list_any (is_last_close settled roles steps c) before || (b || false)) here ∙ or-true (list_any (is_last_close settled roles steps c) before)
