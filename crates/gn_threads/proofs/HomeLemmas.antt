-- Actors come home whose numbers follow one another, and the lists by number then.
use Rattle.std.proofs.Common.{◌≡◌, ◌≢◌, ◌<◌, ◌≤◌, ◌+◌, ◌⊎◌, ◌∷◌, ◌∙◌, ℕ, zero, suc, List, [], length, get_or, set, refl, ap, arith, inl, inr}
use Rattle.std.proofs.lemmas.List.{get_or-set_other, get_or-set_same, length-set}
use Rattle.gn_rules.specs.declared.receipt.Receipt.{Receipt}
use Rattle.gn_actors.specs.ActorState.{ActorState}
use Rattle.gn_start.specs.Over.{AreNumberedFrom}
use Rattle.gn_threads.specs.Homecoming.{AreAllOut, with_all_home}

-- there are as many lists as before
pub as_many_lists : {A : Type 0} (lists : List (List (Receipt A))) (actors : List (ActorState A)) → length (with_all_home lists actors) ≡ length lists
as_many_lists lists [] = refl
as_many_lists lists (me ∷ actors) = as_many_lists (set lists me.number me.receipts) actors ∙ length-set lists me.number me.receipts

-- the others of such actors
rest_numbered : {A : Type 0} (first : ℕ) (me : ActorState A) (actors : List (ActorState A)) → AreNumberedFrom first (me ∷ actors) → AreNumberedFrom (first + 1) actors
rest_numbered first me actors all j d below = omega (arith, all (suc j) d (omega (arith, below)))

first_numbered : {A : Type 0} (first : ℕ) (me : ActorState A) (actors : List (ActorState A)) → AreNumberedFrom first (me ∷ actors) → me.number ≡ first
first_numbered first me actors all = omega (arith, all 0 me (omega arith))

-- a list of a number past theirs or before it stays
pub other_list : {A : Type 0} (lists : List (List (Receipt A))) (actors : List (ActorState A)) (first k : ℕ) → AreNumberedFrom first actors → (k < first) ⊎ (first + length actors ≤ k)
    → get_or (with_all_home lists actors) k [] ≡ get_or lists k []
other_list lists [] first k all other = refl
other_list lists (me ∷ actors) first k all other =
    let is = first_numbered first me actors all in
    let apart : k ≢ me.number = elim other as (λ _. k ≢ me.number) [
      | inl low ↦ λ same. absurd (omega (arith, low, same, is))
      | inr high ↦ λ same. absurd (omega (arith, high, same, is))
    ] in
    let still : (k < first + 1) ⊎ (first + 1 + length actors ≤ k) = elim other as (λ _. (k < first + 1) ⊎ (first + 1 + length actors ≤ k)) [
      | inl low ↦ inl (omega (arith, low))
      | inr high ↦ inr (omega (arith, high))
    ] in
    other_list (set lists me.number me.receipts) actors (first + 1) k (rest_numbered first me actors all) still ∙ get_or-set_other lists me.number k me.receipts [] apart

-- each has its own
pub own_list : {A : Type 0} (lists : List (List (Receipt A))) (actors : List (ActorState A)) (first j : ℕ) (d : ActorState A) → AreNumberedFrom first actors → first + j < length lists → j < length actors
    → get_or (with_all_home lists actors) (first + j) [] ≡ (get_or actors j d).receipts
own_list lists [] first j d all room below = absurd (omega (arith, below))
own_list {A} lists (me ∷ actors) first zero d all room below =
    let is = first_numbered first me actors all in
    let here : first + 0 ≡ me.number = omega (arith, is) in
    ap (λ n. get_or (with_all_home (set lists me.number me.receipts) actors) n []) here
    ∙ (other_list (set lists me.number me.receipts) actors (first + 1) me.number (rest_numbered first me actors all) (inl (omega (arith, is)))
    ∙ get_or-set_same lists me.number me.receipts [] (omega (arith, is, room)))
own_list {A} lists (me ∷ actors) first (suc j) d all room below =
    let next = own_list (set lists me.number me.receipts) actors (first + 1) j d (rest_numbered first me actors all) (omega (arith, room, length-set lists me.number me.receipts)) (omega (arith, below)) in
    let here : first + suc j ≡ first + 1 + j = omega arith in
    ap (λ n. get_or (with_all_home (set lists me.number me.receipts) actors) n []) here ∙ next

-- they are out where there is no list yet of their numbers
pub all_out : {A : Type 0} (lists : List (List (Receipt A))) (actors : List (ActorState A)) (first : ℕ) → AreNumberedFrom first actors
    → ((n : ℕ) → first ≤ n → n < first + length actors → (n < length lists) × (get_or lists n [] ≡ [])) → AreAllOut lists actors
all_out lists [] first all none = tt
all_out {A} lists (me ∷ actors) first all none =
    let is = first_numbered first me actors all in
    let here = none me.number (omega (arith, is)) (omega (arith, is)) in (
      here.0,
      here.1,
      all_out (set lists me.number me.receipts) actors (first + 1) (rest_numbered first me actors all)
          (λ n low high.
          let there = none n (omega (arith, low)) (omega (arith, high)) in
          (omega (arith, there.0, length-set lists me.number me.receipts), get_or-set_other lists me.number n me.receipts [] (λ same. absurd (omega (arith, same, low, is))) ∙ there.1)),
    )
