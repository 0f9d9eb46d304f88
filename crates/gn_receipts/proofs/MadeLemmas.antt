-- One step more is one receipt more of its actor.
use Rattle.std.proofs.Common.{◌≡◌, ◌<◌, ◌+◌, ◌==◌, ℕ, true, false, cond, List, [], ◌∷◌, ◌++◌, length, get_or, map, set, take, Vec, refl, sym, ap, ◌∙◌, subst, arith, inl, inr}
use Rattle.std.proofs.lemmas.Bool.{cases_lt, eqb-true, eqb-false}
use Rattle.std.proofs.lemmas.List.{get_or-map, get_or-set_same, get_or-set_other, length-set, length-take-le, length_push, get_or_push, get_or_append_left, map-append, map-set, take_more}
use Rattle.gn_rules.specs.declared.receipt.Receipt.{Receipt}
use Rattle.gn_rules.specs.declared.receipt.Step.{Step}
use Rattle.gn_rules.specs.History.{mine, mine_from}
use Rattle.gn_receipts.specs.Made.{AreMade, receipt_at, receipt_list}

mine_own : {A : Type 0} (a i : ℕ) (steps : List (Step A)) (x : Step A) → (x.actor == a) ≡ true → mine_from a i (steps ++ x ∷ []) ≡ mine_from a i steps ++ receipt_at (i + length steps) x ∷ []
mine_own {A} a i [] x own = rw own (ap (λ n. receipt_at {A = A} n x ∷ []) (omega arith))
mine_own {A} a i (y ∷ steps) x own =
    let rest : mine_from a (i + 1) (steps ++ x ∷ []) ≡ mine_from a (i + 1) steps ++ receipt_at (i + length (y ∷ steps)) x ∷ [] =
    mine_own a (i + 1) steps x own ∙ ap (λ n. mine_from a (i + 1) steps ++ receipt_at {A = A} n x ∷ []) (omega arith) in
    elim (y.actor == a) as (λ b. cond b (receipt_at i y ∷ mine_from a (i + 1) (steps ++ x ∷ [])) (mine_from a (i + 1) (steps ++ x ∷ [])) ≡ cond b (receipt_at i y ∷ mine_from a (i + 1) steps) (mine_from a (i + 1) steps) ++ receipt_at (i + length (y ∷ steps)) x ∷ []) [
      | true ↦ ap (λ w. receipt_at i y ∷ w) rest
      | false ↦ rest
    ]

mine_other : {A : Type 0} (a i : ℕ) (steps : List (Step A)) (x : Step A) → (x.actor == a) ≡ false → mine_from a i (steps ++ x ∷ []) ≡ mine_from a i steps
mine_other {A} a i [] x other = rw other refl
mine_other {A} a i (y ∷ steps) x other =
    let rest : mine_from a (i + 1) (steps ++ x ∷ []) ≡ mine_from a (i + 1) steps = mine_other a (i + 1) steps x other in
    elim (y.actor == a) as (λ b. cond b (receipt_at i y ∷ mine_from a (i + 1) (steps ++ x ∷ [])) (mine_from a (i + 1) (steps ++ x ∷ [])) ≡ cond b (receipt_at i y ∷ mine_from a (i + 1) steps) (mine_from a (i + 1) steps)) [
      | true ↦ ap (λ w. receipt_at i y ∷ w) rest
      | false ↦ rest
    ]

-- a receipt goes to its actor's
pub made_more : {A : Type 0} (count n : ℕ) (steps : List (Step A)) (x : Step A) (all more : List (List (Receipt A))) → n ≡ length steps → AreMade count steps all
    → more ≡ set all x.actor (get_or all x.actor [] ++ receipt_at n x ∷ []) → AreMade count (steps ++ x ∷ []) more
made_more {A} count n steps x all more place made is =
    let none : List (Receipt A) = [] in
    let put : List (Receipt A) = get_or all x.actor none ++ receipt_at n x ∷ [] in
    let long : length more ≡ count = ap length is ∙ length-set all x.actor put ∙ made.long in
    let size : length all ≡ count = made.long in
    record {
      long = long;
      each = λ a below.
          let at : get_or more a none ≡ get_or (set all x.actor put) a none = ap (λ w. get_or w a none) is in
          elim (x.actor == a) as (λ b. (x.actor == a) ≡ b → get_or more a none ≡ mine (steps ++ x ∷ []) a) [
            | true ↦ λ own.
                let same : x.actor ≡ a = eqb-true x.actor a own in
                let here : x.actor < length all = omega (arith, same, below, size) in
                at ∙ ap (λ k. get_or (set all x.actor put) k none) (sym same) ∙ get_or-set_same all x.actor put none here
                ∙ ap (λ w. w ++ receipt_at n x ∷ []) (ap (λ k. get_or all k none) same ∙ made.each a below)
                ∙ ap (λ k. mine steps a ++ receipt_at {A = A} k x ∷ []) (omega (arith, place))
                ∙ sym (mine_own a 0 steps x own)
            | false ↦ λ other.
                at ∙ get_or-set_other all x.actor a put none (λ same. eqb-false x.actor a other (sym same)) ∙ made.each a below ∙ sym (mine_other a 0 steps x other)
          ] refl;
    }

-- one list more
pub list_more : {A : Type 0} (n m : ℕ) (all more : List (List (Receipt A))) → m ≡ n + 1 → AreMade n [] all → more ≡ all ++ [] ∷ [] → AreMade m [] more
list_more {A} n m all more next made is =
    let none : List (Receipt A) = [] in
    let size = made.long in
    let long = length_push all none in
    record {
      long = ap length is ∙ omega (arith, long, size, next);
      each = λ a below.
          ap (λ w. get_or w a none) is
          ∙ elim (cases_lt a (length all)) as (λ x. get_or (all ++ none ∷ []) a none ≡ none) [
            | inl low ↦ get_or_append_left all (none ∷ []) none a low ∙ made.each a (omega (arith, low, size))
            | inr high ↦ get_or_push all none none a (omega (arith, high, below, size, next))
          ];
    }

-- an empty list is put behind lists
pub list_pushed : {A : Type 0} (items more : List (Vec (Receipt A) A)) (fresh : Vec (Receipt A) A) → more ≡ items ++ fresh ∷ [] → fresh.items ≡ [] → map receipt_list more ≡ map receipt_list items ++ [] ∷ []
list_pushed {A} items more fresh is none =
    let f : Vec (Receipt A) A → List (Receipt A) = receipt_list in
    ap (λ w. map f w) is ∙ map-append f items (fresh ∷ []) ∙ ap (λ w. map f items ++ w ∷ []) none

-- a receipt is put behind those of one list
pub put_more : {A : Type 0} (items : List (Vec (Receipt A) A)) (k : ℕ) (own put : Vec (Receipt A) A) (r q : Receipt A) → k < length items → own ≡ get_or items k own → put.items ≡ own.items ++ q ∷ [] → q ≡ r
    → map receipt_list (set items k put) ≡ set (map receipt_list items) k (get_or (map receipt_list items) k [] ++ r ∷ [])
put_more {A} items k own put r q below is more same =
    let f : Vec (Receipt A) A → List (Receipt A) = receipt_list in
    let found : get_or (map f items) k [] ≡ own.items = get_or-map f items k own [] below ∙ ap f (sym is) in
    map-set f items k put ∙ ap (λ w. set (map f items) k w) (more ∙ ap (λ w. own.items ++ w ∷ []) same ∙ ap (λ w. w ++ r ∷ []) (sym found))

-- the next of a history's steps
pub made_next : {A : Type 0} (count n i : ℕ) (steps : List (Step A)) (x : Step A) (all more : List (List (Receipt A))) → i < length steps → x ≡ get_or steps i x → n ≡ i → AreMade count (take i steps) all
    → more ≡ set all x.actor (get_or all x.actor [] ++ receipt_at n x ∷ []) → AreMade count (take (i + 1) steps) more
made_next {A} count n i steps x all more below is place made did =
    let next : take (i + 1) steps ≡ take i steps ++ x ∷ [] = take_more steps i x below ∙ ap (λ w. take i steps ++ w ∷ []) (sym is) in
    let long : n ≡ length (take i steps) = place ∙ sym (length-take-le i steps (omega (arith, below))) in
    subst (λ w. AreMade count w more) (sym next) (made_more count n (take i steps) x all more long made did)
