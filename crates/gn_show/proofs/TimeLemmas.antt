-- The times of steps, one after another.
use Rattle.std.proofs.Common.{◌≡◌, ◌+◌, ◌∙◌, ℕ, true, false, List, [], ◌∷◌, drop, get_or, refl, ap, arith}
use Rattle.std.proofs.lemmas.List.{drop-drop, get_or-drop}
use Rattle.gn_text.specs.Lines.{is_skipped}
use Rattle.gn_show.specs.Times.{place_of, time_below, times_from}

-- a line that is skipped is the first
pub times_skipped : (time line : List ℕ) (lines more : List (List ℕ)) → lines ≡ line ∷ more → is_skipped line ≡ true → times_from time lines ≡ times_from (time_below time line) more
times_skipped time line lines more is skipped = rw (is, skipped) refl

-- so is one that isn't
pub times_said : (time line : List ℕ) (lines more : List (List ℕ)) → lines ≡ line ∷ more → is_skipped line ≡ false → times_from time lines ≡ time ∷ times_from time more
times_said time line lines more is said = rw (is, said) refl

-- the place of the step that comes next
pub time_same : (times left : List (List ℕ)) (index : ℕ) (time : List ℕ) → left ≡ drop index times → time ≡ get_or left 0 [] → record { index = index; time = time } ≡ place_of times index
time_same times left index time is given =
    ap (λ (t : List ℕ). record { index = index; time = t })
    (given ∙ ap (λ (ts : List (List ℕ)). get_or ts 0 []) is ∙ get_or-drop index times 0 [] ∙ ap (λ (n : ℕ). get_or times n []) (omega arith))

-- the times after it
pub times_more : (times left more : List (List ℕ)) (index : ℕ) → left ≡ drop index times → more ≡ drop 1 left → more ≡ drop (index + 1) times
times_more times left more index is next = next ∙ ap (drop 1) is ∙ drop-drop 1 index times
