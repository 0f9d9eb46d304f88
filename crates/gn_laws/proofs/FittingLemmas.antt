-- Receipts that stand at their places and add up to the steps are the actors' own steps.
use Rattle.std.proofs.Common.{◌≡◌, ◌≤◌, ◌<◌, ◌+◌, ◌==◌, ℕ, zero, suc, Bool, true, false, not, cond, nat_lt, List, [], ◌∷◌, length, get_or, take, refl, sym, ap, ◌∙◌, inl, inr, arith, subst}
use Rattle.std.specs.List.{AllByRecursion, list_all, sum_by}
use Rattle.std.proofs.lemmas.Bool.{and_parts, cases_lt, eq-eqb, le-ltb, ltb-false, ltb-true, ne_eqb, not-true}
use Rattle.std.proofs.Math.Seq.{take-length}
use Rattle.std.proofs.lemmas.List.Elements.{recursion_from_All}
use Rattle.std.proofs.lemmas.List.Sums.{count_by-le-length, sum_by_more}
use Rattle.gn_rules.specs.declared.event.Event.{Event}
use Rattle.gn_rules.specs.declared.receipt.Receipt.{Receipt}
use Rattle.gn_rules.specs.declared.receipt.Step.{Step}
use Rattle.gn_rules.specs.declared.reply.Reply.{Reply}
use Rattle.gn_rules.specs.History.{mine, mine_from, step_of}
use Rattle.gn_laws.specs.Owners.{receipts_below, indices_ascend, AreFitting, FittingAreMine, FittingIsMine, StrangersHaveNone}
use Rattle.gn_laws.proofs.OwnerLemmas.{mine_length, receipts_add_up, receipts_counted}
use Rattle.gn_laws.proofs.ReceiptLemmas.{receipts_in_order}

-- where a receipt's step stands among steps of which the first has index i
record StandsAt {A : Type 0} (a i : ℕ) (steps : List (Step A)) (r : Receipt A) : Type 0 where
  place : ℕ
  index_is : r.index ≡ i + place
  within : place < length steps
  is : (d : Step A) → get_or steps place d ≡ step_of a r

at_least : (i n : ℕ) → not (nat_lt n i) ≡ true → i ≤ n
at_least i n h = ltb-false n i (not-true (nat_lt n i) h)

-- receipts that don't stand at the first step stand in the rest
shifted : {A : Type 0} (a i low : ℕ) (step : Step A) (steps : List (Step A)) (receipts : List (Receipt A)) → AllByRecursion (StandsAt a i (step ∷ steps)) receipts → indices_ascend low receipts ≡ true → i + 1 ≤ low
    → AllByRecursion (StandsAt a (i + 1) steps) receipts
shifted a i low step steps [] each ascends above = tt
shifted {A} a i low step steps (r ∷ receipts) each ascends above =
    let parts = and_parts (not (nat_lt r.index low)) (indices_ascend (r.index + 1) receipts) ascends in
    let high = at_least low r.index parts.0 in
    (one each.0.place each.0.index_is each.0.within each.0.is high, shifted a i (r.index + 1) step steps receipts each.1 parts.1 (omega (arith, high, above)))
  where
    one : (p : ℕ) → r.index ≡ i + p → p < length (step ∷ steps) → ((d : Step A) → get_or (step ∷ steps) p d ≡ step_of a r) → low ≤ r.index → StandsAt a (i + 1) steps r
    one zero at within is high = absurd (omega (arith, at, high, above))
    one (suc p) at within is high = record { place = p; index_is = omega (arith, at); within = omega (arith, within); is = is }

-- receipts that fit are no more than the actor's own, and where they are as many they are these
record IsPart {A : Type 0} (receipts own : List (Receipt A)) : Type 0 where
  few : length receipts ≤ length own
  same : length receipts ≡ length own → receipts ≡ own

none_are : {A : Type 0} (own : List (Receipt A)) → 0 ≡ length own → [] ≡ own
none_are [] h = refl
none_are (r ∷ own) h = absurd (omega (arith, h))

-- one receipt more, at the head of both
part_more : {A : Type 0} (r s : Receipt A) (receipts own : List (Receipt A)) → r ≡ s → IsPart receipts own → IsPart (r ∷ receipts) (s ∷ own)
part_more r s receipts own is part = record {
  few = omega (arith, part.few);
  same = λ h. ap (λ x. x ∷ receipts) is ∙ ap (λ xs. s ∷ xs) (part.same (omega (arith, h)));
}

-- one of the actor's own that no receipt names
part_less : {A : Type 0} (b : Bool) (s : Receipt A) (receipts own : List (Receipt A)) → IsPart receipts own → IsPart receipts (cond b (s ∷ own) own)
part_less true s receipts own part = record { few = omega (arith, part.few); same = λ h. absurd (omega (arith, part.few, h)) }
part_less false s receipts own part = part

same_receipt : {A : Type 0} (i j : ℕ) (d e : Event A) (p q : Reply A) → i ≡ j → d ≡ e → p ≡ q → ◌≡◌ {A = Receipt A} (record { index = i; event = d; reply = p }) (record { index = j; event = e; reply = q })
same_receipt i j d e p q e1 e2 e3 = rw (e1, e2, e3) refl

part_of : {A : Type 0} (a i : ℕ) (steps : List (Step A)) (receipts : List (Receipt A)) → AllByRecursion (StandsAt a i steps) receipts → indices_ascend i receipts ≡ true → IsPart receipts (mine_from a i steps)
part_of a i steps [] each ascends = record { few = omega arith; same = λ h. none_are (mine_from a i steps) h }
part_of a i [] (r ∷ receipts) each ascends = absurd (omega (arith, each.0.within))
part_of {A} a i (step ∷ steps) (r ∷ receipts) each ascends =
    let parts = and_parts (not (nat_lt r.index i)) (indices_ascend (r.index + 1) receipts) ascends in
    elim (cases_lt i r.index) as (λ x. IsPart (r ∷ receipts) (mine_from a i (step ∷ steps))) [
      | inl later ↦
          let onward : indices_ascend (i + 1) (r ∷ receipts) ≡ true = rw (le-ltb r.index (i + 1) (omega (arith, later))) parts.1 in
          part_less (step.actor == a) (record { index = i; event = step.event; reply = step.reply }) (r ∷ receipts) (mine_from a (i + 1) steps)
          (part_of a (i + 1) steps (r ∷ receipts) (shifted a i (i + 1) step steps (r ∷ receipts) each onward (omega arith)) onward)
      | inr now ↦
          let here : r.index ≡ i = omega (arith, now, each.0.index_is) in
          let first : each.0.place ≡ 0 = omega (arith, now, each.0.index_is) in
          let is : step ≡ step_of a r = ap (λ n. get_or (step ∷ steps) n step) (sym first) ∙ each.0.is step in
          let own : (step.actor == a) ≡ true = eq-eqb step.actor a (ap (λ (x : Step A). x.actor) is) in
          let onward : indices_ascend (i + 1) receipts ≡ true = ap (λ n. indices_ascend (n + 1) receipts) (sym here) ∙ parts.1 in
          rw own (part_more r (record { index = i; event = step.event; reply = step.reply }) receipts (mine_from a (i + 1) steps)
          (same_receipt r.index i r.event step.event r.reply step.reply here (sym (ap (λ (x : Step A). x.event) is)) (sym (ap (λ (x : Step A). x.reply) is)))
          (part_of a (i + 1) steps receipts (shifted a i (i + 1) step steps receipts each.1 onward (omega arith)) onward))
    ]

fits_part : {A : Type 0} (steps : List (Step A)) (a : ℕ) (receipts : List (Receipt A)) → Step A → AreFitting steps a receipts → IsPart receipts (mine steps a)
fits_part {A} steps a receipts e fits =
    part_of a 0 steps receipts
    (recursion_from_All (StandsAt a 0 steps) receipts (λ j r below. record {
      place = (get_or receipts j r).index;
      index_is = omega arith;
      within = (fits.stands j r e below).0;
      is = λ d. (fits.stands j r d below).1;
    }))
    fits.ascend

-- the first n actors' receipts are no more than their steps, and where they are as many, each actor's are
record ArePart {A : Type 0} (steps : List (Step A)) (all : List (List (Receipt A))) (n : ℕ) : Type 0 where
  few : sum_by (λ receipts. length receipts) (take n all) ≤ receipts_below steps n
  same : sum_by (λ receipts. length receipts) (take n all) ≡ receipts_below steps n → (a : ℕ) → a < n → length (get_or all a []) ≡ length (mine steps a)

are_part : {A : Type 0} (steps : List (Step A)) (all : List (List (Receipt A))) → ((a : ℕ) → a < length all → length (get_or all a []) ≤ length (mine steps a)) → (n : ℕ) → n ≤ length all → ArePart steps all n
are_part steps all each zero within = record { few = omega arith; same = λ h a below. absurd (omega (arith, below)) }
are_part {A} steps all each (suc n) within =
    let before = are_part steps all each n (omega (arith, within)) in
    let low : n < length all = omega (arith, within) in
    let next : suc n ≡ n + 1 = omega arith in
    let more : sum_by (λ receipts. length receipts) (take (suc n) all) ≡ sum_by (λ receipts. length receipts) (take n all) + length (get_or all n []) =
    ap (λ m. sum_by (λ (receipts : List (Receipt A)). length receipts) (take m all)) next ∙ sum_by_more (λ (receipts : List (Receipt A)). length receipts) all n [] low in
    let here = each n low in
    record {
      few = omega (arith, more, here, before.few);
      same = λ h a below.
          let equal : sum_by (λ receipts. length receipts) (take n all) ≡ receipts_below steps n = omega (arith, more, here, before.few, h) in
          elim (cases_lt a n) as (λ x. length (get_or all a []) ≡ length (mine steps a)) [
            | inl under ↦ before.same equal a under
            | inr last ↦
                let is : a ≡ n = omega (arith, last, below) in
                ap (λ m. length (get_or all m [])) is ∙ omega (arith, more, equal, h) ∙ ap (λ m. length (mine steps m)) (sym is)
          ];
    }

-- the same, where no step is at hand to look past the end
no_steps : {A : Type 0} (a : ℕ) (receipts : List (Receipt A)) → AreFitting [] a receipts → receipts ≡ []
no_steps a [] fits = refl
no_steps {A} a (r ∷ receipts) fits = absurd (omega (arith, (fits.stands 0 r (step_of a r) (omega arith)).0))

part_at : {A : Type 0} (steps : List (Step A)) (a : ℕ) (receipts : List (Receipt A)) → AreFitting steps a receipts → IsPart receipts (mine steps a)
part_at [] a receipts fits = rw (no_steps a receipts fits) (record { few = omega arith; same = λ h. refl })
part_at (step ∷ steps) a receipts fits = fits_part (step ∷ steps) a receipts step fits

pub fitting_are_mine : (A : Type 0) → FittingAreMine A
fitting_are_mine A steps all each total =
    let n = length all in
    let parts : (a : ℕ) → a < n → IsPart (get_or all a []) (mine steps a) = λ a below. part_at steps a (get_or all a []) (each a below) in
    let whole = are_part steps all (λ a below. (parts a below).few) n (omega arith) in
    let took : sum_by (λ receipts. length receipts) (take n all) ≡ length steps = ap (sum_by (λ (receipts : List (Receipt A)). length receipts)) (take-length all) ∙ total in
    let most = count_by-le-length (λ (step : Step A). nat_lt step.actor n) steps in
    let counted = receipts_counted steps n in
    let sums : receipts_below steps n ≡ length steps = omega (arith, took, most, counted, whole.few) in
    ((λ a below. (parts a below).same (whole.same (took ∙ sym sums) a below)), (receipts_add_up A steps n).0 sums)

pub fitting_is_mine : (A : Type 0) → FittingIsMine A
fitting_is_mine A steps a receipts = (
  (λ same. (subst (AreFitting steps a) (sym same) (receipts_in_order A steps a), ap length same ∙ mine_length a 0 steps)),
  (λ both. (part_at steps a receipts both.0).same (both.1 ∙ sym (mine_length a 0 steps))),
)

strangers_from : {A : Type 0} (n a i : ℕ) (steps : List (Step A)) → list_all (λ step. nat_lt step.actor n) steps ≡ true → n ≤ a → mine_from a i steps ≡ []
strangers_from n a i [] all past = refl
strangers_from {A} n a i (step ∷ steps) all past =
    let parts = and_parts (nat_lt step.actor n) (list_all (λ (x : Step A). nat_lt x.actor n) steps) all in
    let low = ltb-true step.actor n parts.0 in
    let other : (step.actor == a) ≡ false = ne_eqb step.actor a (λ is. omega (arith, low, past, is)) in
    rw other (strangers_from n a (i + 1) steps parts.1 past)

pub strangers_have_none : (A : Type 0) → StrangersHaveNone A
strangers_have_none A steps n a all past = strangers_from n a 0 steps all past
