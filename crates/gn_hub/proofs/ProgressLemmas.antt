-- Receipts of several events, one by one.
use Rattle.std.proofs.Common.{◌≡◌, ◌==◌, ℕ, ◌+◌, ◌<◌, ◌≤◌, Bool, true, false, List, [], ◌∷◌, ◌++◌, get_or, length, map, take, Some, None, refl, sym, subst, ap, ◌∙◌, arith}
use Rattle.std.proofs.lemmas.Bool.Decides.{nat_tests}
use Rattle.std.proofs.lemmas.List.{get_or-map, get_or_default, length-map, take_more}
use Rattle.gn_rules.specs.declared.event.Event.{Event}
use Rattle.gn_rules.specs.declared.event.Event.TheVariants.{Route}
use Rattle.gn_rules.specs.declared.refusal.Refusal.{Refusal}
use Rattle.gn_rules.specs.declared.refusal.Refusal.TheVariants.{NoMemory}
use Rattle.gn_rules.specs.Fits.{refuses}
use Rattle.gn_hub.specs.declared.progress.Progress.{Progress}
use Rattle.gn_hub.specs.ActorState.{ActorState}
use Rattle.gn_hub.specs.Receipts.{HasProgressed, HasReceipt, HasReceipts}

receipts-push : {A : Type 0} (events : List (Event A)) (event : Event A) (me mid us : ActorState A) → HasReceipts events me mid → HasReceipt event mid us → HasReceipts (events ++ event ∷ []) me us
receipts-push [] event me mid us same got = (us, subst (λ w. HasReceipt event w us) same got, refl)
receipts-push (e ∷ events) event me mid us (next, first, more) got = (next, first, receipts-push events event next mid us more got)

-- the next of these events made its step, too
pub one_more : {A : Type 0} (events : List (Event A)) (i n : ℕ) (event : Event A) (me mid us : ActorState A) → n ≡ i → i < length events → event ≡ get_or events i event
    → HasReceipts (take n events) me mid → HasReceipt event mid us → HasReceipts (take (n + 1) events) me us
one_more {A} events i n event me mid us at within is was got =
    let first : HasReceipts (take i events) me mid = subst (λ k. HasReceipts (take k events) me mid) at was in
    let grown : take (n + 1) events ≡ take i events ++ event ∷ [] =
    ap (λ k. take (k + 1) events) at ∙ take_more events i event within ∙ ap (λ e. take i events ++ e ∷ []) (sym is) in
    subst (λ w. HasReceipts w me us) (sym grown) (receipts-push (take i events) event me mid us first got)

-- no more made theirs, and none was refused
pub ended : {A : Type 0} (events : List (Event A)) (progress : Progress) (me us : ActorState A) → progress.refusal ≡ None → progress.done ≤ length events → 0 < progress.done
    → HasReceipts (take progress.done events) me us → HasProgressed events progress me us
ended {A} events progress me us none within few was = record {
  within = within;
  receipts = was;
  some = λ _. few;
  refused = λ refusal is. let no : None ≡ Some refusal = sym none ∙ is in absurd (cc);
}

-- where there was no more room some were made
pub later : (n : ℕ) (b : Bool) → (n ≡ 0 → b ≡ true) → b ≡ false → 0 < n
later n b first full = by_test (n == 0) refl
  where
    by_test : (t : Bool) → (n == 0) ≡ t → 0 < n
    by_test true is = let zero : n ≡ 0 = grind (arith, nat_tests) in let yes : true ≡ false = sym (first zero) ∙ full in absurd (cc)
    by_test false is = grind (arith, nat_tests)

-- the next one was refused so
pub stopped : {A : Type 0} (events : List (Event A)) (progress : Progress) (i : ℕ) (event : Event A) (refusal : Refusal) (me mid us : ActorState A)
    → progress.done ≡ i → progress.refusal ≡ Some refusal → i < length events → event ≡ get_or events i event → HasReceipts (take progress.done events) me mid
    → (refuses event refusal ≡ true) × (us ≡ mid) → HasProgressed events progress me us
stopped {A} events progress i event refusal me mid us at why within is was (fits, same) = record {
  within = omega arith;
  receipts = subst (λ w. HasReceipts (take progress.done events) me w) (sym same) was;
  some = λ none. let no : Some refusal ≡ None = sym why ∙ none in absurd (cc);
  refused = λ other found.
      let both : Some refusal ≡ Some other = sym why ∙ found in
      let so : refusal ≡ other = cc in
      let here = λ (d : Event A). ap (λ k. get_or events k d) at ∙ get_or_default events i d event within ∙ sym is in
      (omega arith, λ d. ap (λ e. refuses e other) (here d) ∙ subst (λ r. refuses event r ≡ true) so fits);
}

-- nothing was begun
pub not_begun : {A : Type 0} (events : List (Event A)) (progress : Progress) (me us : ActorState A) → progress.done ≡ 0 → progress.refusal ≡ Some NoMemory → 0 < length events → us ≡ me
    → HasProgressed events progress me us
not_begun {A} events progress me us done why few same = record {
  within = omega arith;
  receipts = subst (λ k. HasReceipts (take k events) me us) (sym done) same;
  some = λ none. let no : Some NoMemory ≡ None = sym why ∙ none in absurd (cc);
  refused = λ other is.
      let both : Some NoMemory ≡ Some other = sym why ∙ is in
      let so : NoMemory ≡ other = cc in
      (omega arith, λ d. ap (λ r. refuses (get_or events progress.done d) r) (sym so));
}

-- the route of a job by its place
pub route_at : {A D : Type 0} (jobs : List (ℕ × D)) (i : ℕ) (job : ℕ × D) → i < length jobs → job ≡ get_or jobs i job
    → ◌≡◌ {A = Event A} (Route job.0) (get_or (map (λ j. Route j.0) jobs) i (Route job.0))
route_at {A} jobs i job within is = ap {B = Event A} (λ j. Route j.0) is ∙ sym (get_or-map {Y = Event A} (λ j. Route j.0) jobs i job (Route job.0) within)

pub routes_below : (A : Type 0) {D : Type 0} (jobs : List (ℕ × D)) (i : ℕ) → i < length jobs → i < length (map {B = Event A} (λ j. Route j.0) jobs)
routes_below A jobs i below = let long = length-map {B = Event A} jobs (λ j. Route j.0) in omega arith

pub routes_within : (A : Type 0) {D : Type 0} (jobs : List (ℕ × D)) (i : ℕ) → i ≤ length jobs → i ≤ length (map {B = Event A} (λ j. Route j.0) jobs)
routes_within A jobs i within = let long = length-map {B = Event A} jobs (λ j. Route j.0) in omega arith
