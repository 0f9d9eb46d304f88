-- How a text is read that is counted.
use Rattle.std.proofs.Common.{◌≡◌, ◌<◌, ◌≤◌, ◌+◌, ℕ, zero, suc, Bool, true, false, List, [], ◌∷◌, ◌++◌, get_or, length, take, drop, set, None, Some, refl, sym, ap, ◌∙◌, arith}
use Rattle.std.specs.Prelude.{◌==◌, ◌||◌, nat_lt, if◌then◌else◌, slice_range}
use Rattle.std.proofs.lemmas.Bool.Decides.{nat_tests}
use Rattle.std.proofs.lemmas.List.{drop-drop, get_or-take, length-drop, length-take-le, take-append-drop, take_all, take_more, take_more_set, take_rest}
use Rattle.memchr.specs.Find.{IsFirstByte, is_byte, is_byte2}
use Rattle.gn_metrics.specs.Counting.{Standing, after_byte, after_bytes, behind_event, byte_at, moved, with_letter}
use Rattle.gn_metrics.specs.declared.tally.Place.{Place}
use Rattle.gn_metrics.specs.declared.tally.Place.TheVariants.{Start, Event, Word, Rest}

-- one byte is read
pub one_byte : (s : Standing) (place : Place) (text : List ℕ) → s.place ≡ place → 0 < length text
    → after_bytes s (take 1 text) ≡ byte_at place s (get_or text 0 0)
one_byte s place [] here some = absurd (omega arith)
one_byte s place (b ∷ bs) here some = ap (λ (p : Place). byte_at p s b) here

-- bytes that change nothing
pub skipped : (s : Standing) (bytes : List ℕ) → ((k : ℕ) → k < length bytes → after_byte s (get_or bytes k 0) ≡ s) → after_bytes s bytes ≡ s
skipped s [] stays = refl
skipped s (b ∷ bs) stays =
    ap (λ (t : Standing). after_bytes t bs) (stays zero (omega arith)) ∙ skipped s bs (λ k below. stays (suc k) (omega arith))

-- bytes, and those behind them
pub after_both : (s : Standing) (xs ys : List ℕ) → after_bytes s (xs ++ ys) ≡ after_bytes (after_bytes s xs) ys
after_both s [] ys = refl
after_both s (x ∷ xs) ys = after_both (after_byte s x) xs ys

-- bytes that change nothing, and one behind them
pub up_to : (s : Standing) (text : List ℕ) (at : ℕ) → at < length text → ((k : ℕ) → k < at → after_byte s (get_or text k 0) ≡ s)
    → after_bytes s (take (at + 1) text) ≡ after_byte s (get_or text at 0)
up_to s text at below stays =
    let long : length (take at text) ≡ at = length-take-le at text (omega arith) in
    let before : after_bytes s (take at text) ≡ s =
    skipped s (take at text) (λ k within. ap (λ (b : ℕ). after_byte s b) (get_or-take at text k 0 (omega arith)) ∙ stays k (omega arith)) in
    ap (λ (xs : List ℕ). after_bytes s xs) (take_more text at 0 below) ∙ after_both s (take at text) (get_or text at 0 ∷ [])
    ∙ ap (λ (t : Standing). after_byte t (get_or text at 0)) before

event_kept : (x y : Bool) → ((x || y) ≡ true → ⊥) → (if x then Word else (if y then Start else Event)) ≡ Event
event_kept true y none = absurd (none refl)
event_kept false true none = absurd (none refl)
event_kept false false none = refl

rest_kept : (x : Bool) → (x ≡ true → ⊥) → (if x then Start else Rest) ≡ Rest
rest_kept true none = absurd (none refl)
rest_kept false none = refl

event_stays : (s : Standing) (b : ℕ) → s.place ≡ Event → (is_byte2 61 10 b ≡ true → ⊥) → after_byte s b ≡ s
event_stays s b here none =
    ap (λ (p : Place). byte_at p s b) here ∙ ap (λ (p : Place). moved p s) (event_kept (b == 61) (b == 10) none ∙ sym here)

rest_stays : (s : Standing) (b : ℕ) → s.place ≡ Rest → (is_byte 10 b ≡ true → ⊥) → after_byte s b ≡ s
rest_stays s b here none =
    ap (λ (p : Place). byte_at p s b) here ∙ ap (λ (p : Place). moved p s) (rest_kept (b == 10) none ∙ sym here)

-- what stands before `=` is read up to it, or to the end of its line
pub event_found : (s : Standing) (text : List ℕ) (at : ℕ) → s.place ≡ Event → IsFirstByte (is_byte2 61 10) text (Some at)
    → after_bytes s (take (at + 1) text) ≡ moved (behind_event (get_or text at 0)) s
event_found s text at here first =
    let stays : (k : ℕ) → k < at → after_byte s (get_or text k 0) ≡ s = λ k below. event_stays s (get_or text k 0) here (first.0.before k (omega arith) below) in
    up_to s text at first.0.high stays ∙ ap (λ (p : Place). byte_at p s (get_or text at 0)) here

-- or to the end of the text
pub event_none : (s : Standing) (text : List ℕ) → s.place ≡ Event → IsFirstByte (is_byte2 61 10) text None
    → after_bytes s (take (length text) text) ≡ s
event_none s text here first =
    ap (λ (xs : List ℕ). after_bytes s xs) (take_all (length text) text (omega arith))
    ∙ skipped s text (λ k below. event_stays s (get_or text k 0) here (first k (omega arith) below))

-- what is left of a line is read up to its end
pub rest_found : (s : Standing) (text : List ℕ) (at : ℕ) → s.place ≡ Rest → IsFirstByte (is_byte 10) text (Some at)
    → after_bytes s (take (at + 1) text) ≡ moved Start s
rest_found s text at here first =
    let stays : (k : ℕ) → k < at → after_byte s (get_or text k 0) ≡ s = λ k below. rest_stays s (get_or text k 0) here (first.0.before k (omega arith) below) in
    up_to s text at first.0.high stays ∙ ap (λ (p : Place). byte_at p s (get_or text at 0)) here
    ∙ ap (λ (x : Bool). moved (if x then Start else Rest) s) first.1

-- or to the end of the text
pub rest_none : (s : Standing) (text : List ℕ) → s.place ≡ Rest → IsFirstByte (is_byte 10) text None
    → after_bytes s (take (length text) text) ≡ s
rest_none s text here first =
    ap (λ (xs : List ℕ). after_bytes s xs) (take_all (length text) text (omega arith))
    ∙ skipped s text (λ k below. rest_stays s (get_or text k 0) here (first k (omega arith) below))

-- what is read of what is left is within the text
pub left_within : (text : List ℕ) (start count : ℕ) → start ≤ length text → count ≤ length (slice_range text start (length text)) → start + count ≤ length text
left_within text start count within few =
    let left : slice_range text start (length text) ≡ drop start text = take_rest text start in
    omega (arith, ap length left, length-drop start text)

-- a part of what is left is read
pub read_more : (s now next : Standing) (text : List ℕ) (start count : ℕ) → start ≤ length text
    → after_bytes now (drop start text) ≡ after_bytes s text → next ≡ after_bytes now (take count (slice_range text start (length text)))
    → after_bytes next (drop (start + count) text) ≡ after_bytes s text
read_more s now next text start count within so_far more =
    let left : slice_range text start (length text) ≡ drop start text = take_rest text start in
    let part : next ≡ after_bytes now (take count (drop start text)) = more ∙ ap (λ (xs : List ℕ). after_bytes now (take count xs)) left in
    ap (λ (t : Standing). after_bytes t (drop (start + count) text)) part
    ∙ ap (λ (xs : List ℕ). after_bytes (after_bytes now (take count (drop start text))) xs) (sym (drop-drop count start text))
    ∙ sym (after_both now (take count (drop start text)) (drop count (drop start text)))
    ∙ ap (λ (xs : List ℕ). after_bytes now xs) (take-append-drop count (drop start text)) ∙ so_far

-- a word that isn't as long as is looked at has one more letter
pub letter_more : (word : List ℕ) (n letter : ℕ) → n < length word → n < 16 → take (n + 1) (set word n letter) ≡ with_letter (take n word) letter
letter_more word n letter within few =
    let long : length (take n word) ≡ n = length-take-le n word (omega arith) in
    let short : nat_lt (length (take n word)) 16 ≡ true = grind (arith, nat_tests) in
    take_more_set word n letter within
    ∙ sym (ap (λ (x : Bool). if x then take n word ++ letter ∷ [] else take n word) short)

-- one that is stays
pub letter_none : (word : List ℕ) (n letter : ℕ) → n ≤ length word → 16 ≤ n → take n word ≡ with_letter (take n word) letter
letter_none word n letter within many =
    let long : length (take n word) ≡ n = length-take-le n word within in
    let short : nat_lt (length (take n word)) 16 ≡ false = grind (arith, nat_tests) in
    sym (ap (λ (x : Bool). if x then take n word ++ letter ∷ [] else take n word) short)
