-- The lines of a text that was put together of lines.
use Rattle.std.proofs.Common.{◌≡◌, ℕ, ◌+◌, ◌-◌, ◌<◌, List, [], ◌∷◌, ◌++◌, length, get_or, true, false, refl, sym, ap, ◌∙◌, arith, append-nil, append_assoc, length-append}
use Rattle.std.specs.Prelude.{◌==◌, not}
use Rattle.std.specs.Char.{is_ascii_digit}
use Rattle.std.specs.List.{flat_map, list_all, slice_split, All, AllByRecursion}
use Rattle.std.proofs.lemmas.Bool.{and_parts}
use Rattle.std.proofs.lemmas.Bool.Decides.{nat_tests}
use Rattle.std.proofs.lemmas.List.{get_or_push, take_at}
use Rattle.std.proofs.lemmas.List.Splits.{slice_split_at, slice_split_none}
use Rattle.std.proofs.lemmas.List.Sums.{AllPass-from_list_all}
use Rattle.gn_text.specs.Lines.{is_skipped, is_word, lines_of, without_last_feed}
use Rattle.gn_text.specs.Parsed.{numbered_from}
use Rattle.gn_capture.specs.Histories.{ending}
use Rattle.gn_capture.proofs.Spaced.{IsLine}

-- lines with a line feed after each
abbrev pub fed : List (List ℕ) → List ℕ
fed lines = flat_map (λ line. line ++ 10 ∷ []) lines

-- lines with a line feed between them
abbrev joined : List ℕ → List (List ℕ) → List ℕ
joined x [] = x
joined x (y ∷ ys) = x ++ 10 ∷ joined y ys

no_feed : (x : ℕ) → not (x == 10) ≡ true → (x == 10) ≡ false
no_feed x h = grind (arith, nat_tests)

without_feed : (line : List ℕ) → IsLine line → All (λ x. (x == 10) ≡ false) line
without_feed line h = λ k d lt. no_feed (get_or line k d) (AllPass-from_list_all (λ b. not (b == 10)) line h k d lt)

split_joined : (x : List ℕ) (xs : List (List ℕ)) → IsLine x → AllByRecursion IsLine xs → slice_split (λ b. b == 10) (joined x xs) ≡ x ∷ xs
split_joined x [] h k = slice_split_none (λ b. b == 10) x (without_feed x h)
split_joined x (y ∷ ys) h k =
    slice_split_at (λ b. b == 10) x 10 (joined y ys) (without_feed x h) refl ∙ ap (λ (r : List (List ℕ)). x ∷ r) (split_joined y ys k.0 k.1)

fed_joined : (x : List ℕ) (xs : List (List ℕ)) → fed (x ∷ xs) ≡ joined x xs ++ 10 ∷ []
fed_joined x [] = append-nil (x ++ 10 ∷ [])
fed_joined x (y ∷ ys) =
    ap (λ (r : List ℕ). (x ++ 10 ∷ []) ++ r) (fed_joined y ys)
    ∙ (append_assoc x (10 ∷ []) (joined y ys ++ 10 ∷ []) ∙ sym (append_assoc x (10 ∷ joined y ys) (10 ∷ [])))

last_feed : (t : List ℕ) → without_last_feed (t ++ 10 ∷ []) ≡ t
last_feed t =
    let n : length (t ++ 10 ∷ []) - 1 ≡ length t = omega (arith, length-append t (10 ∷ [])) in
    rw (n, get_or_push t 10 0 (length t) refl) (take_at t (10 ∷ []) (length t) refl)

lines_fed : (t : List ℕ) → lines_of (t ++ 10 ∷ []) ≡ slice_split (λ b. b == 10) t
lines_fed t =
    let e : (length (t ++ 10 ∷ []) == 0) ≡ false = grind (arith, nat_tests, length-append t (10 ∷ [])) in
    rw (e, last_feed t) refl

pub lines_again : (x : List ℕ) (xs : List (List ℕ)) → IsLine x → AllByRecursion IsLine xs → lines_of (fed (x ∷ xs)) ≡ x ∷ xs
lines_again x xs h k = ap lines_of (fed_joined x xs) ∙ (lines_fed (joined x xs) ∙ split_joined x xs h k)

-- lines with their numbers, from n on
abbrev pub numbered : ℕ → List (List ℕ) → List (ℕ × List ℕ)
numbered n [] = []
numbered n (line ∷ more) = (n, line) ∷ numbered (n + 1) more

-- a line that isn't skipped
abbrev pub IsParsed : List ℕ → Type 0
IsParsed line = is_skipped line ≡ false

-- where no line is skipped, each one says something
pub parsed_again : (n : ℕ) (lines : List (List ℕ)) → AllByRecursion IsParsed lines → numbered_from n lines ≡ numbered n lines
parsed_again n [] h = refl
parsed_again n (line ∷ more) h = rw (h.0, parsed_again (n + 1) more h.1) refl

digit_parsed : (x : ℕ) → is_ascii_digit x ≡ true → (x == 35) ≡ false
digit_parsed x h = grind (arith, nat_tests)

digit_goes_on : (x : ℕ) → is_ascii_digit x ≡ true → (x == 101) ≡ false
digit_goes_on x h = grind (arith, nat_tests)

-- a line that begins with a number isn't skipped, nor is it the line `end`
pub number_parsed : (ds rest : List ℕ) → 0 < length ds → list_all is_ascii_digit ds ≡ true → IsParsed (ds ++ rest)
number_parsed [] rest some h = absurd (omega arith)
number_parsed (d ∷ ds) rest some h = digit_parsed d (and_parts (is_ascii_digit d) (list_all is_ascii_digit ds) h).0

pub number_goes_on : (ds rest : List ℕ) → 0 < length ds → list_all is_ascii_digit ds ≡ true → is_word (ds ++ rest) ending ≡ false
number_goes_on [] rest some h = absurd (omega arith)
number_goes_on (d ∷ ds) rest some h = rw (digit_goes_on d (and_parts (is_ascii_digit d) (list_all is_ascii_digit ds) h).0) refl
