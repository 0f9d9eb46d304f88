-- Results one after another, as the code goes over them.
use Rattle.std.proofs.Common.{◌≡◌, ℕ, ◌+◌, ◌<◌, ◌≤◌, Bool, ◌||◌, List, [], ◌∷◌, ◌++◌, length, get_or, take, drop, map, refl, sym, ap, ◌∙◌, arith, length-append}
use Rattle.std.specs.List.{AllByRecursion, list_any}
use Rattle.std.proofs.lemmas.List.{take-append-drop, append-nil, take_more, map-append, get_or_default}
use Rattle.std.proofs.lemmas.List.Concat.{flat_map-append}
use Rattle.gn_payload.specs.declared.hit_result.HitResult.{HitResult}
use Rattle.gn_payload.specs.Fields.{ResultFields}
use Rattle.gn_payload.specs.Encoding.{HasNumbers, result_bytes, results_bytes}
use Rattle.gn_payload.specs.Views.{result_fields}

-- a test of what entries say, as one of the entries
pub any_mapped : (p : ResultFields → Bool) (xs : List HitResult) → list_any p (map result_fields xs) ≡ list_any (λ x. p (result_fields x)) xs
any_mapped p [] = refl
any_mapped p (x ∷ xs) = ap (λ b. p (result_fields x) || b) (any_mapped p xs)

-- what entries say, one entry more
mapped_more : (xs : List HitResult) (i : ℕ) (x : HitResult) → i < length xs → x ≡ get_or xs i x → map result_fields (take (i + 1) xs) ≡ map result_fields (take i xs) ++ result_fields x ∷ []
mapped_more xs i x h e =
    ap (λ (ys : List HitResult). map result_fields ys) (take_more xs i x h) ∙ map-append result_fields (take i xs) (get_or xs i x ∷ [])
    ∙ ap (λ (y : HitResult). map result_fields (take i xs) ++ result_fields y ∷ []) (sym e)

-- the bytes of entries, one entry more
pub bytes_more : (xs : List HitResult) (i : ℕ) (x : HitResult) → i < length xs → x ≡ get_or xs i x
    → results_bytes (map result_fields (take (i + 1) xs)) ≡ results_bytes (map result_fields (take i xs)) ++ result_bytes (result_fields x)
bytes_more xs i x h e =
    ap results_bytes (mapped_more xs i x h e) ∙ flat_map-append result_bytes (map result_fields (take i xs)) (result_fields x ∷ [])
    ∙ ap (λ (ys : List ℕ). results_bytes (map result_fields (take i xs)) ++ ys) (append-nil (result_bytes (result_fields x)))

-- the first entries have no more bytes than all
pub bytes_within : (xs : List HitResult) (i : ℕ) → length (results_bytes (map result_fields (take i xs))) ≤ length (results_bytes (map result_fields xs))
bytes_within xs i =
    let whole : results_bytes (map result_fields xs) ≡ results_bytes (map result_fields (take i xs)) ++ results_bytes (map result_fields (drop i xs)) =
    ap (λ (ys : List HitResult). results_bytes (map result_fields ys)) (sym (take-append-drop i xs))
    ∙ ap results_bytes (map-append result_fields (take i xs) (drop i xs)) ∙ flat_map-append result_bytes (map result_fields (take i xs)) (map result_fields (drop i xs)) in
    omega (arith, ap length whole, length-append (results_bytes (map result_fields (take i xs))) (results_bytes (map result_fields (drop i xs))))

-- what holds of several and of one more
all_push : (rs : List ResultFields) (r : ResultFields) → AllByRecursion HasNumbers rs → HasNumbers r → AllByRecursion HasNumbers (rs ++ r ∷ [])
all_push [] r all one = (one, tt)
all_push (q ∷ rs) r all one = (all.0, all_push rs r all.1 one)

-- numbers that fit, one entry more
pub numbers_more : (xs : List HitResult) (i : ℕ) (x : HitResult) → i < length xs → x ≡ get_or xs i x → HasNumbers (result_fields x)
    → AllByRecursion HasNumbers (map result_fields (take i xs)) → AllByRecursion HasNumbers (map result_fields (take (i + 1) xs))
numbers_more xs i x h e one all = rw (mapped_more xs i x h e) (all_push (map result_fields (take i xs)) (result_fields x) all one)

-- the first entries and the next have no more bytes than all
pub entry_within : (xs : List HitResult) (i : ℕ) (d : HitResult) → i < length xs
    → length (results_bytes (map result_fields (take i xs))) + length (result_bytes (result_fields (get_or xs i d))) ≤ length (results_bytes (map result_fields xs))
entry_within xs i d h =
    let next = get_or xs i d in
    let more = bytes_more xs i next h (get_or_default xs i d next h) in
    omega (arith, bytes_within xs (i + 1), ap length more, length-append (results_bytes (map result_fields (take i xs))) (result_bytes (result_fields next)))
