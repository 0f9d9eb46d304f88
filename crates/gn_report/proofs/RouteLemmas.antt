-- How far a history has to be looked at to find the routes of all that was admitted.
use Rattle.std.proofs.Common.{◌≡◌, ◌≤◌, ◌<◌, ◌+◌, ◌==◌, ◌||◌, ℕ, zero, suc, Bool, true, false, List, [], ◌∷◌, length, get_or, reverse, take, Some, None, refl, sym, ap, ◌∙◌, subst, arith, inl, inr}
use Rattle.std.specs.List.{list_any}
use Rattle.std.proofs.lemmas.Bool.{cases_lt, eq-eqb, eqb-true}
use Rattle.std.proofs.lemmas.Grind.{common_steps}
use Rattle.std.proofs.lemmas.List.{get_or-take, length-take-le, take_all}
use Rattle.std.proofs.lemmas.List.Folds.{list_any_at, list_any_more}
use Rattle.gn_rules.specs.declared.receipt.Step.{Step}
use Rattle.gn_rules.specs.Flight.{flying, is_route, is_routed}
use Rattle.gn_rules.specs.History.{admitted_of, is_at}
use Rattle.gn_laws.specs.Runs.{EachIsRouted, is_admitted}
use Rattle.gn_laws.proofs.RunLemmas.{none_flies}
use Rattle.gn_report.specs.declared.routes.Reach.{Reach}
use Rattle.gn_report.specs.BodyEnds.{is_settled}
use Rattle.gn_report.specs.Routes.{IsReach, IsRouteAt, RoutesNotAt, RoutesNotNear}

-- a test that the first n items pass is passed by the first m
any_within : {X : Type 0} (p : X → Bool) (xs : List X) (n m : ℕ) → n ≤ m → list_any p (take n xs) ≡ true → list_any p (take m xs) ≡ true
any_within p [] zero zero low e = e
any_within p [] zero (suc m) low e = e
any_within p [] (suc n) zero low e = e
any_within p [] (suc n) (suc m) low e = e
any_within p (x ∷ xs) zero m low e = cc
any_within p (x ∷ xs) (suc n) zero low e = absurd (omega (arith, low))
any_within p (x ∷ xs) (suc n) (suc m) low e = let h = any_within p xs n m (omega (arith, low)) in grind (arith, common_steps, h, e)

-- no item passes where none at any place does
none_any : {X : Type 0} (p : X → Bool) (xs : List X) → ((place : ℕ) (d : X) → place < length xs → p (get_or xs place d) ≡ false) → list_any p xs ≡ false
none_any p [] each = refl
none_any p (x ∷ xs) each =
    let here : p x ≡ false = each 0 x (omega arith) in
    let rest : list_any p xs ≡ false = none_any p xs (λ place d below. each (suc place) d (omega (arith, below))) in
    grind (arith, common_steps, here, rest)

-- nothing is in flight where all that was admitted so far is routed so far
settled_of : {A : Type 0} (steps : List (Step A)) (k : ℕ) → EachIsRouted (take k steps) → is_settled steps k ≡ true
settled_of {A} steps k each = eq-eqb (length (flying (reverse (take k steps)))) 0 ((none_flies A (take k steps)).1 each)

-- so it is where the routes of what the first k steps admitted stand among them
pub reached : {A : Type 0} (steps : List (Step A)) (k : ℕ) (reach : Reach) → IsReach steps k reach → reach.until ≤ k → is_settled steps k ≡ true
reached {A} steps k reach is low =
    settled_of steps k (λ t was. any_within (λ (x : Step A). is_route t x.event) steps reach.until k low (is.routed t was))

-- not where what a step admitted is routed by none
pub unrouted : {A : Type 0} (steps : List (Step A)) (i t : ℕ) (d : Step A) → i < length steps → admitted_of (get_or steps i d).reply ≡ Some t → is_routed steps t ≡ false
    → is_settled steps (length steps) ≡ false
unrouted {A} steps i t d below gives none =
    elim (is_settled steps (length steps)) as (λ b. is_settled steps (length steps) ≡ b → b ≡ false) [
      | false ↦ λ e. refl
      | true ↦ λ e.
          let whole : take (length steps) steps ≡ steps = take_all (length steps) steps (omega arith) in
          let each = (none_flies A (take (length steps) steps)).0 (eqb-true (length (flying (reverse (take (length steps) steps)))) 0 e) in
          let here : is_at t (admitted_of (get_or steps i d).reply) ≡ true = ap (is_at t) gives ∙ itself t in
          let was : is_admitted steps t ≡ true = list_any_at (λ (x : Step A). is_at t (admitted_of x.reply)) steps i d below here in
          let is : is_routed steps t ≡ true = subst (λ (xs : List (Step A)). EachIsRouted xs) whole each t was in
          cc
    ] refl
  where
    itself : (n : ℕ) → (n == n) ≡ true
    itself n = grind (arith, common_steps)

either : (a b : Bool) → (a || b) ≡ true → b ≡ false → a ≡ true
either true b e none = refl
either false b e none = cc

-- a step that admits nothing leaves the reach
pub reach_kept : {A : Type 0} (steps : List (Step A)) (i : ℕ) (reach : Reach) (d : Step A) → IsReach steps i reach → i < length steps → admitted_of (get_or steps i d).reply ≡ None
    → IsReach steps (i + 1) reach
reach_kept {A} steps i reach d is below none = record {
  near = is.near;
  until = is.until;
  routed = λ t was.
      let p : Step A → Bool = λ x. is_at t (admitted_of x.reply) in
      is.routed t (either (is_admitted (take i steps) t) (p (get_or steps i d)) (sym (list_any_more p steps i d below) ∙ was) (ap (is_at t) none));
}

-- the reach goes on to the route of what a step admits
pub reach_on : {A : Type 0} (steps : List (Step A)) (i u place : ℕ) (reach next : Reach) (d : Step A) → IsReach steps i reach → i < length steps → admitted_of (get_or steps i d).reply ≡ Some u
    → IsRouteAt u steps place → next.near ≡ place → reach.until ≤ next.until → place < next.until → next.until ≤ length steps → IsReach steps (i + 1) next
reach_on {A} steps i u place reach next d is below gives at near high past within = record {
  near = λ some. omega (arith, near, at.within);
  until = within;
  routed = λ t was.
      let p : Step A → Bool = λ x. is_at t (admitted_of x.reply) in
      let q : ℕ → Step A → Bool = λ n x. is_route n x.event in
      either_way (is_admitted (take i steps) t) (p (get_or steps i d)) (is_routed (take next.until steps) t) (sym (list_any_more p steps i d below) ∙ was)
      (λ before. any_within (q t) steps reach.until next.until high (is.routed t before))
      (λ here.
      let same : t ≡ u = eqb-true t u (sym (ap (is_at t) gives) ∙ here) in
      let there : q u (get_or (take next.until steps) place d) ≡ true = ap (q u) (get_or-take next.until steps place d past) ∙ at.is d in
      let long : length (take next.until steps) ≡ next.until = length-take-le next.until steps within in
      subst (λ n. is_routed (take next.until steps) n ≡ true) (sym same) (list_any_at (q u) (take next.until steps) place d (omega (arith, long, past)) there));
}
  where
    either_way : (a b c : Bool) → (a || b) ≡ true → (a ≡ true → c ≡ true) → (b ≡ true → c ≡ true) → c ≡ true
    either_way true b c e f g = f refl
    either_way false b c e f g = g e

-- no step routes t where none does that is less than the whole history apart from a place in it
pub none_near : {A : Type 0} (t : ℕ) (steps : List (Step A)) (near apart : ℕ) → near < length steps → length steps ≤ apart → RoutesNotNear t steps near apart → is_routed steps t ≡ false
none_near {A} t steps near apart inside whole none =
    none_any (λ (x : Step A). is_route t x.event) steps (λ place d below. none place (omega (arith, inside, whole, below)) (omega (arith, inside, whole, below)) d below)

-- none does that is one place more apart, where neither of the two at that distance does
pub not_nearer : {A : Type 0} (t : ℕ) (steps : List (Step A)) (near apart : ℕ) → RoutesNotNear t steps near apart
    → ((place : ℕ) → place ≡ near + apart → RoutesNotAt t steps place) → ((place : ℕ) → place + apart ≡ near → RoutesNotAt t steps place)
    → RoutesNotNear t steps near (apart + 1)
not_nearer {A} t steps near apart before ahead behind place low high =
    elim (cases_lt place (near + apart)) as (λ x. RoutesNotAt t steps place) [
      | inr over ↦ ahead place (omega (arith, over, low))
      | inl under ↦ elim (cases_lt near (place + apart)) as (λ x. RoutesNotAt t steps place) [
        | inl above ↦ before place under above
        | inr below ↦ behind place (omega (arith, below, high))
      ]
    ]

-- what was said of the steps that pass a test is said of one place more, where the routes are within reach if the step there passes it
pub settled_on : {A : Type 0} (asked : Step A → Bool) (steps : List (Step A)) (i : ℕ) (reach : Reach) (said now : Bool) → IsReach steps i reach
    → (said ≡ true → (k : ℕ) (d : Step A) → k < i → asked (get_or steps k d) ≡ true → is_settled steps k ≡ true)
    → (now ≡ true → said ≡ true) → (now ≡ true → (d : Step A) → asked (get_or steps i d) ≡ true → reach.until ≤ i)
    → now ≡ true → (k : ℕ) (d : Step A) → k < i + 1 → asked (get_or steps k d) ≡ true → is_settled steps k ≡ true
settled_on {A} asked steps i reach said now is before earlier here holds k d under asks =
    elim (cases_lt k i) as (λ x. is_settled steps k ≡ true) [
      | inl low ↦ before (earlier holds) k d low asks
      | inr last ↦
          let at : k ≡ i = omega (arith, last, under) in
          let there : asked (get_or steps i d) ≡ true = subst (λ n. asked (get_or steps n d) ≡ true) at asks in
          subst (λ n. is_settled steps n ≡ true) (sym at) (reached steps i reach is (here holds d there))
    ]
