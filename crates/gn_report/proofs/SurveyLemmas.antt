-- What one look at a whole report says of a step or of a place in the history.
use Rattle.std.proofs.Common.{◌≡◌, ◌≤◌, ◌<◌, ◌+◌, ◌-◌, ◌&&◌, ℕ, zero, suc, Bool, true, false, not, nat_lt, List, [], ◌∷◌, length, drop, get_or, Some, refl, sym, ap, ◌∙◌, inl, inr, subst, arith}
use Rattle.std.specs.List.{list_all, slice_get}
use Rattle.std.proofs.lemmas.Bool.{and_from, cases_lt, le-leb, le-ltb, leb-true, lt-ltb}
use Rattle.std.proofs.Math.Dec.{leb}
use Rattle.std.proofs.lemmas.Grind.{common_steps}
use Rattle.std.proofs.lemmas.List.{get_or_default}
use Rattle.std.proofs.lemmas.Option.{slice_get-get_or, slice_get_past}
use Rattle.gn_rules.specs.declared.receipt.Step.{Step}
use Rattle.gn_shake.specs.declared.role.Role.{Role}
use Rattle.gn_report.specs.declared.report.LinkReport.{LinkReport}
use Rattle.gn_report.specs.Actors.{is_awaited_reader}
use Rattle.gn_report.specs.BodyEnds.{is_settled}
use Rattle.gn_report.specs.Survey.{AreSettled, IsDrainsCloseAt, IsReadUntil, has_drained, is_drained, is_drained_writer}

pub settled_there : {Rd W A : Type 0} (links : List (LinkReport Rd W A)) (steps : List (Step A)) (k : ℕ) → AreSettled links steps → IsDrainsCloseAt links steps k → is_settled steps k ≡ true
settled_there links [] k settled at = absurd (omega (arith, at.within))
settled_there links (step ∷ steps) k settled at = settled k step at.within (at.is step)

all_from : {X : Type 0} (p : X → Bool) (xs : List X) (k : ℕ) → ((j : ℕ) (d : X) → k ≤ j → j < length xs → p (get_or xs j d) ≡ true) → list_all p (drop k xs) ≡ true
all_from p [] zero each = refl
all_from p [] (suc k) each = refl
all_from p (x ∷ xs) zero each = and_from (p x) (list_all p xs) (each 0 x (omega arith) (omega arith)) (all_from p xs 0 (λ j d high low. each (suc j) d (omega arith) (omega (arith, low))))
all_from p (x ∷ xs) (suc k) each = all_from p xs k (λ j d high low. each (suc j) d (omega (arith, high)) (omega (arith, low)))

none_from : {X : Type 0} (p : X → Bool) (xs : List X) (k j : ℕ) (d : X) → k ≤ j → j < length xs → p (get_or xs j d) ≡ false → list_all p (drop k xs) ≡ false
none_from p [] k j d high low e = absurd (omega (arith, low))
none_from p (x ∷ xs) zero zero d high low e = ap (λ b. b && list_all p xs) e
none_from p (x ∷ xs) zero (suc j) d high low e = let h = none_from p xs 0 j d (omega arith) (omega (arith, low)) e in grind (arith, common_steps, h)
none_from p (x ∷ xs) (suc k) zero d high low e = absurd (omega (arith, high))
none_from p (x ∷ xs) (suc k) (suc j) d high low e = none_from p xs k j d (omega (arith, high)) (omega (arith, low)) e

-- every awaited reader's step stands before place k exactly where the last of them does
pub read_by : {A : Type 0} (roles : List Role) (steps : List (Step A)) (n k : ℕ) → IsReadUntil roles steps n → list_all (λ step. not (is_awaited_reader roles step.actor)) (drop k steps) ≡ not (nat_lt k n)
read_by {A} roles steps n k read =
    elim (cases_lt k n) as (λ x. list_all (λ (step : Step A). not (is_awaited_reader roles step.actor)) (drop k steps) ≡ not (nat_lt k n)) [
      | inl low ↦ before steps n low read ∙ sym (ap not (lt-ltb k n low))
      | inr high ↦
          all_from (λ (step : Step A). not (is_awaited_reader roles step.actor)) steps k (λ j d above below. ap not (read.none j d (omega (arith, high, above)) below))
          ∙ sym (ap not (le-ltb k n (omega (arith, high))))
    ]
  where
    before : (steps : List (Step A)) (n : ℕ) → k < n → IsReadUntil roles steps n → list_all (λ (step : Step A). not (is_awaited_reader roles step.actor)) (drop k steps) ≡ false
    before [] n low read = absurd (omega (arith, low, read.within))
    before (step ∷ steps) n low read =
        none_from (λ (x : Step A). not (is_awaited_reader roles x.actor)) (step ∷ steps) k (n - 1) step (omega (arith, low)) (omega (arith, low, read.within))
        (ap not (read.last (n - 1) step (omega (arith, low))))

leb_is : (n k : ℕ) → leb n k ≡ not (nat_lt k n)
leb_is n k =
    elim (cases_lt k n) as (λ x. leb n k ≡ not (nat_lt k n)) [
      | inl low ↦ no low ∙ sym (ap not (lt-ltb k n low))
      | inr high ↦ le-leb n k (omega (arith, high)) ∙ sym (ap not (le-ltb k n (omega (arith, high))))
    ]
  where
    no : k < n → leb n k ≡ false
    no low = elim (leb n k) as (λ b. leb n k ≡ b → b ≡ false) [
      | true ↦ λ e. absurd (omega (arith, leb-true n k e, low))
      | false ↦ λ e. refl
    ] refl

-- every awaited reader's step stands before place k exactly where the code's test says so
pub is_read_by : {A : Type 0} (roles : List Role) (steps : List (Step A)) (n k : ℕ) → IsReadUntil roles steps n → leb n k ≡ list_all (λ step. not (is_awaited_reader roles step.actor)) (drop k steps)
is_read_by roles steps n k read = leb_is n k ∙ sym (read_by roles steps n k read)

-- one place further back
pub none_back : {A : Type 0} (roles : List Role) (steps : List (Step A)) (n m : ℕ) (step : Step A) → m ≡ n + 1 → n < length steps → is_awaited_reader roles (get_or steps n step).actor ≡ false
    → ((k : ℕ) (d : Step A) → m ≤ k → k < length steps → is_awaited_reader roles (get_or steps k d).actor ≡ false)
    → (k : ℕ) (d : Step A) → n ≤ k → k < length steps → is_awaited_reader roles (get_or steps k d).actor ≡ false
none_back {A} roles steps n m step next below not_awaited after k d high low =
    elim (cases_lt n k) as (λ x. is_awaited_reader roles (get_or steps k d).actor ≡ false) [
      | inl over ↦ after k d (omega (arith, next, over)) low
      | inr under ↦
          let at : n ≡ k = omega (arith, under, high) in
          let same = get_or_default steps n step d below in
          subst (λ i. is_awaited_reader roles (get_or steps i d).actor ≡ false) at (subst (λ (x : Step A). is_awaited_reader roles x.actor ≡ false) same not_awaited)
    ]

-- the step that was looked at is the last one
pub last_at : {A : Type 0} (roles : List Role) (steps : List (Step A)) (n m : ℕ) (step : Step A) → m ≡ n + 1 → n < length steps → is_awaited_reader roles (get_or steps n step).actor ≡ true
    → (k : ℕ) (d : Step A) → m ≡ k + 1 → is_awaited_reader roles (get_or steps k d).actor ≡ true
last_at {A} roles steps n m step next below awaited k d at =
    let same : n ≡ k = omega (arith, next, at) in
    subst (λ i. is_awaited_reader roles (get_or steps i d).actor ≡ true) same (subst (λ (x : Step A). is_awaited_reader roles x.actor ≡ true) (get_or_default steps n step d below) awaited)

-- a reader is no writer
pub no_writer : {Rd W A : Type 0} (links : List (LinkReport Rd W A)) (a : ℕ) → a < length links → is_drained_writer links a ≡ false
no_writer links a below = ap (λ b. not b && has_drained (slice_get links (a - length links))) (lt-ltb a (length links) below)

-- an actor that is no reader is looked for among the links
writer_at : {Rd W A : Type 0} (links : List (LinkReport Rd W A)) (a : ℕ) → length links ≤ a → is_drained_writer links a ≡ has_drained (slice_get links (a - length links))
writer_at links a past = ap (λ b. not b && has_drained (slice_get links (a - length links))) (le-ltb a (length links) past)

pub writer_there : {Rd W A : Type 0} (links : List (LinkReport Rd W A)) (a : ℕ) (link : LinkReport Rd W A) → length links ≤ a → a - length links < length links
    → link ≡ get_or links (a - length links) link → is_drained_writer links a ≡ is_drained link.writer_end
writer_there {Rd} {W} {A} links a link past below is =
    writer_at links a past ∙ ap has_drained (slice_get-get_or links (a - length links) link below ∙ ap (λ (l : LinkReport Rd W A). Some l) (sym is))

pub writer_past : {Rd W A : Type 0} (links : List (LinkReport Rd W A)) (a : ℕ) → length links ≤ a → length links ≤ a - length links → is_drained_writer links a ≡ false
writer_past links a past beyond = writer_at links a past ∙ ap has_drained (slice_get_past links (a - length links) beyond)
