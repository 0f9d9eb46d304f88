-- The first of the lines that aren't skipped.
use Rattle.std.proofs.Common.{◌≡◌, refl, ℕ, ◌+◌, List, [], ◌∷◌, length, true, false, ◌∙◌, sym, arith}
use Rattle.gn_text.specs.Lines.{is_skipped}
use Rattle.gn_text.specs.Parsed.{numbered_from}

-- a line that is skipped is none of them
pub line_skipped : (n : ℕ) (line : List ℕ) (lines more : List (List ℕ)) (all : List (ℕ × List ℕ)) → lines ≡ line ∷ more → is_skipped line ≡ true
    → numbered_from n lines ≡ all → numbered_from (n + 1) more ≡ all
line_skipped n line lines more all is skipped e =
    let same : numbered_from n lines ≡ numbered_from (n + 1) more = rw (is, skipped) refl in
    sym same ∙ e

-- another is the first
pub line_parsed : (n : ℕ) (line : List ℕ) (lines more : List (List ℕ)) (all : List (ℕ × List ℕ)) → lines ≡ line ∷ more → is_skipped line ≡ false
    → numbered_from n lines ≡ all → all ≡ (n, line) ∷ numbered_from (n + 1) more
line_parsed n line lines more all is parsed e = sym e ∙ rw (is, parsed) refl

-- the number after the last one stays
pub after_line : (n : ℕ) (line : List ℕ) (lines more : List (List ℕ)) (after : ℕ) → lines ≡ line ∷ more → length lines + n ≡ after → length more + (n + 1) ≡ after
after_line n line lines more after is e =
    let one_more : length lines ≡ length more + 1 = rw is (omega arith) in
    omega arith

-- where no line is left, none of them is
pub none_left : (n : ℕ) (lines : List (List ℕ)) (all : List (ℕ × List ℕ)) → lines ≡ [] → numbered_from n lines ≡ all → all ≡ []
none_left n lines all is e = sym e ∙ rw is refl

pub after_all : (n : ℕ) (lines : List (List ℕ)) (after : ℕ) → lines ≡ [] → length lines + n ≡ after → after ≡ n
after_all n lines after is e =
    let none : length lines ≡ 0 = rw is refl in
    omega arith
