-- Lists, as items are put into them.
use Rattle.std.proofs.Common.{◌≡◌, ◌<◌, ◌≤◌, ◌+◌, ◌≢◌, ◌⊎◌, ℕ, List, [], ◌∷◌, ◌++◌, Option, Some, None, length, get_or, set, replicate, suc, zero, refl, sym, ap, ◌∙◌, arith, inl, inr}
use Rattle.std.specs.List.{slice_get}
use Rattle.std.proofs.lemmas.Bool.{cases_eq, cases_lt}
use Rattle.std.proofs.lemmas.List.{get_or-set_other, get_or_past, set-get_or}

pub get_push_old : {X : Type 0} (xs : List X) (x y : X) (k : ℕ) → slice_get xs k ≡ Some y → slice_get (xs ++ x ∷ []) k ≡ Some y
get_push_old [] x y k h = absurd (cc)
get_push_old (z ∷ zs) x y zero h = h
get_push_old (z ∷ zs) x y (suc k) h = get_push_old zs x y k h

pub get_push_new : {X : Type 0} (xs : List X) (x : X) → slice_get (xs ++ x ∷ []) (length xs) ≡ Some x
get_push_new [] x = refl
get_push_new (z ∷ zs) x = get_push_new zs x

-- what stands in a list that is one longer stood there before, or is new
pub get_push_cases : {X : Type 0} (xs : List X) (x y : X) (k : ℕ) → slice_get (xs ++ x ∷ []) k ≡ Some y → (slice_get xs k ≡ Some y) ⊎ ((k ≡ length xs) × (x ≡ y))
get_push_cases [] x y zero h = inr (refl, cc)
get_push_cases [] x y (suc k) h = absurd (cc)
get_push_cases (z ∷ zs) x y zero h = inl h
get_push_cases (z ∷ zs) x y (suc k) h =
    elim (get_push_cases zs x y k h) as (λ _. (slice_get zs k ≡ Some y) ⊎ ((suc k ≡ length (z ∷ zs)) × (x ≡ y))) [
      | inl old ↦ inl old
      | inr new ↦ inr (ap suc new.0, new.1)
    ]

-- a slot that is taken is one of the table's
pub is_slot : {X : Type 0} (live : List (Option X)) (i : ℕ) (p : X) → get_or live i None ≡ Some p → i < length live
is_slot [] i p h = absurd (cc)
is_slot (o ∷ live) zero p h = omega arith
is_slot (o ∷ live) (suc i) p h = let r = is_slot live i p h in omega (arith, r)

pub none_listed : {X : Type 0} (n i : ℕ) → get_or {A = List X} (replicate n []) i [] ≡ []
none_listed zero i = refl
none_listed (suc n) zero = refl
none_listed {X} (suc n) (suc i) = none_listed {X = X} n i

-- empty lists at the end change nothing
pub grown_same : {X : Type 0} (lists : List (List X)) (n k : ℕ) → get_or (lists ++ replicate n []) k [] ≡ get_or lists k []
grown_same {X} [] n k = none_listed {X = X} n k
grown_same (l ∷ lists) n zero = refl
grown_same (l ∷ lists) n (suc k) = grown_same lists n k

-- two lists are put: of others nothing changes
pub stay : {X : Type 0} (lists : List (List X)) (a b n : ℕ) (read written : List X) → n ≢ a → n ≢ b → get_or (set (set lists a read) b written) n [] ≡ get_or lists n []
stay lists a b n read written not_a not_b = get_or-set_other (set lists a read) b n written [] not_b ∙ get_or-set_other lists a n read [] not_a

-- a free slot that was freed is free
pub same_free : {X : Type 0} (live live' : List (Option X)) (i : ℕ) → live' ≡ set live i None → get_or live i None ≡ None → live' ≡ live
same_free {X} live live' i e free = e ∙ ap (λ (o : Option X). set live i o) (sym free) ∙ set-get_or live i None

pub set_free : {X : Type 0} (live : List (Option X)) (i : ℕ) → get_or (set live i None) i None ≡ None
set_free [] i = refl
set_free (o ∷ live) zero = refl
set_free (o ∷ live) (suc i) = set_free live i

-- with one slot freed more, so many are free
pub free_more : {X : Type 0} (live live' : List (Option X)) (k : ℕ) → live' ≡ set live k None → ((i : ℕ) → i < k → get_or live i None ≡ None) → (i : ℕ) → i < k + 1 → get_or live' i None ≡ None
free_more {X} live live' k e free i below =
    elim (cases_eq i k) as (λ _. get_or live' i None ≡ None) [
      | inl same ↦ ap (λ (w : List (Option X)). get_or w i None) e ∙ ap (λ (n : ℕ). get_or (set live k None) n None) same ∙ set_free live k
      | inr other ↦ ap (λ (w : List (Option X)). get_or w i None) e ∙ get_or-set_other live k i None None other ∙ free i (omega (arith, below, other))
    ]

-- until all are
pub all_free : {X : Type 0} (live : List (Option X)) (n : ℕ) → length live ≤ n → ((i : ℕ) → i < n → get_or live i None ≡ None) → (i : ℕ) → get_or live i None ≡ None
all_free live n far free i =
    elim (cases_lt i n) as (λ _. get_or live i None ≡ None) [
      | inl below ↦ free i below
      | inr past ↦ get_or_past live i None (omega (arith, far, past))
    ]
