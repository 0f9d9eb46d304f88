-- Where a text is cut.
use Rattle.std.proofs.Common.{◌≡◌, ◌≢◌, ℕ, suc, ◌+◌, ◌-◌, ◌<◌, ◌≤◌, Bool, true, false, List, [], ◌∷◌, ◌++◌, length, length-append, take, drop, slice_index, refl, sym, ap, ◌∙◌, arith, All, Option, Some, None, option_map, get_or, map, append_assoc, Bor}
use Rattle.std.specs.Prelude.{◌==◌, IfNone, IfSome, MatchOption, if◌then◌else◌}
use Rattle.std.specs.List.{slice_split}
use Rattle.std.proofs.lemmas.Bool.{eq-eqb, false≢true, ne_eqb}
use Rattle.std.proofs.lemmas.Bool.Decides.{nat_tests}
use Rattle.std.proofs.lemmas.Grind.{common_steps}
use Rattle.std.proofs.lemmas.List.{length-take, map-append, take-append-le}
use Rattle.std.proofs.lemmas.List.Splits.{slice_split_at, slice_split_none}
use Rattle.gn_text.specs.Lines.{lines_of, without_last_feed}

-- the parts of what stands after a mark, and none where there is no mark
abbrev pub parts_after : ℕ → Option (List ℕ) → List (List ℕ)
parts_after mark None = []
parts_after mark (Some more) = slice_split (λ b. b == mark) more

-- a text that is cut at a place
pub cut_at : (text : List ℕ) (k mark : ℕ) → k < length text → slice_index text k ≡ mark
    → text ≡ take k text ++ mark ∷ take (length text - (k + 1)) (drop (k + 1) text)
cut_at text k mark l is = grind (arith, common_steps)

unmarked : (mark : ℕ) (part : List ℕ) → All (λ b. b ≢ mark) part → All (λ b. (b == mark) ≡ false) part
unmarked mark part h = λ k d l. ne_eqb _ mark (h k d l)

-- the parts of a text are its first part, and those of what stands after the mark
pub parts_of : (mark : ℕ) (text part : List ℕ) (more : Option (List ℕ)) → All (λ b. b ≢ mark) part
    → MatchOption more (text ≡ part) (λ rest. text ≡ part ++ mark ∷ rest)
    → slice_split (λ b. b == mark) text ≡ part ∷ parts_after mark more
parts_of mark text part None h is = ap (slice_split (λ b. b == mark)) is ∙ slice_split_none _ part (unmarked mark part h)
parts_of mark text part (Some rest) h is =
    ap (slice_split (λ b. b == mark)) is ∙ slice_split_at _ part mark rest (unmarked mark part h) (eq-eqb mark mark refl)

-- a byte before a place
pub before_place : (text : List ℕ) (at k d mark : ℕ) → k < length (take at text) → get_or (take at text) k d ≡ mark → (k < at) × (slice_index text k ≡ mark)
before_place text at k d mark l is = (grind (arith, common_steps), grind (arith, common_steps))

pub at_place : (text : List ℕ) (k d mark : ℕ) → k < length text → get_or text k d ≡ mark → slice_index text k ≡ mark
at_place text k d mark l is = grind (arith, common_steps)

same_last : (line : List ℕ) (b : ℕ) (more : List ℕ)
    → slice_index (line ++ 10 ∷ b ∷ more) (length (line ++ 10 ∷ b ∷ more) - 1) ≡ slice_index (b ∷ more) (length (b ∷ more) - 1)
same_last line b more = grind (arith, common_steps)

-- the last byte goes after the first
head_of : (x : ℕ) (rest : List ℕ) → 0 < length rest → take (length (x ∷ rest) - 1) (x ∷ rest) ≡ x ∷ take (length rest - 1) rest
head_of x rest some =
    let place : length (x ∷ rest) - 1 ≡ suc (length rest - 1) = omega arith in
    ap (λ (n : ℕ). take n (x ∷ rest)) place

same_first : (line : List ℕ) (b : ℕ) (more : List ℕ)
    → take (length (line ++ 10 ∷ b ∷ more) - 1) (line ++ 10 ∷ b ∷ more) ≡ line ++ 10 ∷ take (length (b ∷ more) - 1) (b ∷ more)
same_first [] b more = head_of 10 (b ∷ more) (omega arith)
same_first (x ∷ line) b more =
    head_of x (line ++ 10 ∷ b ∷ more) (omega (arith, length-append line (10 ∷ b ∷ more))) ∙ ap (λ (xs : List ℕ). x ∷ xs) (same_first line b more)

chosen : (head xs ys : List ℕ) (t : Bool) → (if t then head ++ 10 ∷ xs else head ++ 10 ∷ ys) ≡ head ++ 10 ∷ (if t then xs else ys)
chosen head xs ys true = refl
chosen head xs ys false = refl

-- a line feed that isn't the last byte stays
feed_stays : (line : List ℕ) (b : ℕ) (more : List ℕ) → without_last_feed (line ++ 10 ∷ b ∷ more) ≡ line ++ 10 ∷ without_last_feed (b ∷ more)
feed_stays line b more =
    let text = line ++ 10 ∷ b ∷ more in
    let last = slice_index (b ∷ more) (length (b ∷ more) - 1) in
    ap (λ (x : ℕ). if x == 10 then take (length text - 1) text else text) (same_last line b more)
    ∙ ap (λ (xs : List ℕ). if last == 10 then xs else text) (same_first line b more)
    ∙ chosen line _ (b ∷ more) (last == 10)

-- a line feed that is the last byte goes
feed_goes : (line : List ℕ) → without_last_feed (line ++ 10 ∷ []) ≡ line
feed_goes line = grind (arith, common_steps)

has_byte : (b : ℕ) (more : List ℕ) → (length (b ∷ more) == 0) ≡ false
has_byte b more = grind (arith, nat_tests)

-- the first line of a text, and those after it
pub lines_cut : (text line more : List ℕ) → (length text == 0) ≡ false → text ≡ line ++ 10 ∷ more → All (λ b. b ≢ 10) line
    → lines_of text ≡ line ∷ lines_of more
lines_cut text line [] filled is h =
    rw filled (ap (λ xs. slice_split (λ b. b == 10) (without_last_feed xs)) is ∙ ap (slice_split (λ b. b == 10)) (feed_goes line)
    ∙ slice_split_none (λ b. b == 10) line (unmarked 10 line h))
lines_cut text line (b ∷ more) filled is h =
    rw (filled, has_byte b more) (ap (λ xs. slice_split (λ b. b == 10) (without_last_feed xs)) is ∙ ap (slice_split (λ b. b == 10)) (feed_stays line b more)
    ∙ slice_split_at (λ b. b == 10) line 10 (without_last_feed (b ∷ more)) (unmarked 10 line h) refl)

-- a text of one line
pub line_alone : (text line : List ℕ) → (length text == 0) ≡ false → text ≡ line → All (λ b. b ≢ 10) line → lines_of text ≡ line ∷ []
line_alone text [] filled is h = absurd (false≢true (sym filled ∙ ap (λ (xs : List ℕ). length xs == 0) is))
line_alone text (b ∷ more) filled is h =
    let line : List ℕ = b ∷ more in
    let kept : without_last_feed line ≡ line =
    ap (λ (t : Bool). if t then take (length line - 1) line else line) (ne_eqb _ 10 (h (length line - 1) 0 (omega arith))) in
    rw filled (ap (λ xs. slice_split (λ b. b == 10) (without_last_feed xs)) is ∙ ap (slice_split (λ b. b == 10)) kept
    ∙ slice_split_none (λ b. b == 10) line (unmarked 10 line h))

-- how much of a text is left to cut
abbrev pub left : Option (Bor (List ℕ)) → ℕ
left None = 0
left (Some rest) = length rest.now + 1

-- what a reference of an option refers to
abbrev pub referred : Option (Bor (List ℕ)) → Option (List ℕ)
referred rest = option_map (λ x. x.now) rest

-- one part more
pub part_added : (head parts : List (Bor (List ℕ))) (part : Bor (List ℕ)) (mark : ℕ) (text : List ℕ) (more : Option (Bor (List ℕ)))
    → All (λ b. b ≢ mark) part.now → IfSome more (λ rest. text ≡ part.now ++ mark ∷ rest.now) → IfNone more (text ≡ part.now) → parts ≡ head ++ part ∷ []
    → map (λ x. x.now) parts ++ parts_after mark (referred more) ≡ map (λ x. x.now) head ++ slice_split (λ b. b == mark) text
part_added head parts part mark text more h cut last is =
    let seen : List (Bor (List ℕ)) → List (List ℕ) = map (λ x. x.now) in
    let added : seen parts ≡ seen head ++ part.now ∷ [] = ap seen is ∙ map-append (λ x. x.now) head (part ∷ []) in
    ap (λ xs. xs ++ parts_after mark (referred more)) added ∙ append_assoc (seen head) (part.now ∷ []) (parts_after mark (referred more))
    ∙ ap (λ xs. seen head ++ xs) (sym (first_and_more more cut last))
  where
    first_and_more : (more : Option (Bor (List ℕ))) → IfSome more (λ rest. text ≡ part.now ++ mark ∷ rest.now) → IfNone more (text ≡ part.now)
        → slice_split (λ b. b == mark) text ≡ part.now ∷ parts_after mark (referred more)
    first_and_more None cut last = parts_of mark text part.now None h last
    first_and_more (Some rest) cut last = parts_of mark text part.now (Some rest.now) h cut

-- what begins with some parts does so with one more
pub kept_more : {X : Type 0} (before now after : List X) (x : X) → take (length before) now ≡ before → after ≡ now ++ x ∷ [] → take (length before) after ≡ before
kept_more before now after x kept is =
    let enough : length before ≤ length now = omega (arith, ap length kept, length-take (length before) now) in
    ap (take (length before)) is ∙ take-append-le (length before) now (x ∷ []) enough ∙ kept
