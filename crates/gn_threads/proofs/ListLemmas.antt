-- Lists, place by place.
use Rattle.std.proofs.Common.{◌≡◌, ◌<◌, ◌+◌, ◌++◌, ◌∷◌, ◌∙◌, ℕ, zero, suc, List, [], length, map, get_or, take, Some, None, refl, sym, ap, arith}
use Rattle.std.proofs.Math.Seq.{take-length}
use Rattle.std.proofs.lemmas.List.{length-append, length-map}
use Rattle.std.specs.List.{slice_get}

-- two maps that say the same of each say the same of all
pub same_maps : {X Y : Type 0} (f g : X → Y) (xs : List X) → ((k : ℕ) (d : X) → k < length xs → f (get_or xs k d) ≡ g (get_or xs k d)) → map f xs ≡ map g xs
same_maps f g [] same = refl
same_maps f g (x ∷ xs) same =
    ap (λ y. y ∷ map f xs) (same 0 x (omega arith)) ∙ ap (λ ys. g x ∷ ys) (same_maps f g xs (λ k d below. same (suc k) d (omega (arith, below))))

-- what stands at each place of two lists, one after the other
each_of_two : {X : Type 0} (f : ℕ → X) (xs rest : List X) (d : X) → ((k : ℕ) → k < length xs → get_or xs k d ≡ f k) → ((k : ℕ) → k < length rest → get_or rest k d ≡ f (length xs + k))
    → (a : ℕ) → a < length xs + length rest → get_or (xs ++ rest) a d ≡ f a
each_of_two {X} f [] rest d first second a below =
    let nothing : List X = [] in
    let same : length nothing + a ≡ a = omega arith in
    second a (omega (arith, below)) ∙ ap f same
each_of_two f (x ∷ xs) rest d first second zero below = first 0 (omega arith)
each_of_two f (x ∷ xs) rest d first second (suc a) below =
    each_of_two (λ k. f (suc k)) xs rest d (λ k low. first (suc k) (omega (arith, low)))
    (λ k low. let same : length (x ∷ xs) + k ≡ suc (length xs + k) = omega arith in second k low ∙ ap f same) a (omega (arith, below))

only_one : {X : Type 0} (f : ℕ → X) (a b c : ℕ) (w d : X) → w ≡ f (a + (b + (c + 0))) → (j : ℕ) → j < length (w ∷ []) → get_or (w ∷ []) j d ≡ f (a + (b + (c + j)))
only_one f a b c w d last zero one = last
only_one f a b c w d last (suc j) one = absurd (omega (arith, one))

-- so of four, the last of one item
pub each_of_four : {X : Type 0} (f : ℕ → X) (xs ys zs : List X) (w d : X) → ((k : ℕ) → k < length xs → get_or xs k d ≡ f k) → ((k : ℕ) → k < length ys → get_or ys k d ≡ f (length xs + k))
    → ((k : ℕ) → k < length zs → get_or zs k d ≡ f (length xs + (length ys + k))) → w ≡ f (length xs + (length ys + (length zs + 0)))
    → (a : ℕ) → a < length xs + length ys + length zs + 1 → get_or (xs ++ (ys ++ (zs ++ w ∷ []))) a d ≡ f a
each_of_four f xs ys zs w d first second third last a below =
    let end = length-append zs (w ∷ []) in
    let rest = length-append ys (zs ++ w ∷ []) in
    each_of_two f xs (ys ++ (zs ++ w ∷ [])) d first
    (λ k low.
    each_of_two (λ i. f (length xs + i)) ys (zs ++ w ∷ []) d second
    (λ i less. each_of_two (λ j. f (length xs + (length ys + j))) zs (w ∷ []) d third (λ j one. only_one f (length xs) (length ys) (length zs) w d last j one) i (omega (arith, less, end)))
    k (omega (arith, low, rest)))
    a (omega (arith, below, end, rest))

-- those that are said to come, one by one, are the first of those to come
pub first_of : {X : Type 0} (xs ys : List X) → ((k : ℕ) (x : X) → slice_get xs k ≡ Some x → slice_get ys k ≡ Some x) → xs ≡ take (length xs) ys
first_of [] ys come = refl
first_of (x ∷ xs) [] come = let no = come 0 x refl in absurd (cc)
first_of (x ∷ xs) (y ∷ ys) come =
    let one = come 0 x refl in
    let same : x ≡ y = cc in
    ap (λ z. z ∷ xs) same ∙ ap (λ zs. y ∷ zs) (first_of xs ys (λ k z there. come (suc k) z there))

-- they are all, where no more come
pub all_of : {X : Type 0} (xs ys : List X) → ((k : ℕ) (x : X) → slice_get xs k ≡ Some x → slice_get ys k ≡ Some x) → slice_get ys (length xs) ≡ None → xs ≡ ys
all_of [] [] come end = refl
all_of [] (y ∷ ys) come end = absurd (cc)
all_of (x ∷ xs) [] come end = let no = come 0 x refl in absurd (cc)
all_of (x ∷ xs) (y ∷ ys) come end =
    let one = come 0 x refl in
    let same : x ≡ y = cc in
    ap (λ z. z ∷ xs) same ∙ ap (λ zs. y ∷ zs) (all_of xs ys (λ k z there. come (suc k) z there) end)

-- as many as all of them are all of them
pub all_come : {K O : Type 0} (origin : K → O) (links : List K) (coming : List O) (n : ℕ) → coming ≡ map origin links → n ≡ length links → take n coming ≡ map origin links
all_come origin links coming n are many =
    ap (λ os. take n os) are ∙ ap (λ k. take k (map origin links)) (many ∙ sym (length-map links origin)) ∙ take-length (map origin links)
