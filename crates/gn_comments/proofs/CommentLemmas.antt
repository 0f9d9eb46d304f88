-- Texts with comments, put together from parts.
use Rattle.std.proofs.Common.{◌≡◌, ◌==◌, ◌∙◌, ◌++◌, ◌∷◌, ◌||◌, ◌-◌, [], ℕ, Bool, true, false, List, ap, refl, if◌then◌else◌, length}
use Rattle.std.specs.Prelude.{slice_index_or}
use native.Mathlib.Numerals.{unary_clauses}
use Rattle.std.specs.List.{list_any}
use Rattle.gn_comments.specs.Comments.{Place, bare, behind, is_comment, place_behind}
use Rattle.gn_comments.specs.Comments.Place.{start, line, comment}

-- where the byte behind two parts stands
pub place_of_both : (place : Place) (first second : List ℕ) → place_behind place (first ++ second) ≡ place_behind (place_behind place first) second
place_of_both place [] second = refl
place_of_both place (byte ∷ first) second = place_of_both (behind place byte) first second

-- a byte that is left or not
bare_then : (is : Bool) (byte : ℕ) (all one two : List ℕ) → all ≡ one ++ two → (if is then all else byte ∷ all) ≡ (if is then one else byte ∷ one) ++ two
bare_then true byte all one two e = e
bare_then false byte all one two e = ap (λ bytes. byte ∷ bytes) e

-- the bytes of two parts
pub bare_of_both : (place : Place) (first second : List ℕ) → bare place (first ++ second) ≡ bare place first ++ bare (place_behind place first) second
bare_of_both place [] second = refl
bare_of_both place (byte ∷ first) second =
    bare_then (is_comment place byte) byte _ _ _ (bare_of_both (behind place byte) first second)

-- a byte of a comment, and those behind it
goes_on : (is : Bool) (said : List ℕ) → (is || list_any (λ byte. byte == 10) said) ≡ false
    → (list_any (λ byte. byte == 10) said ≡ false → place_behind comment (said ++ 10 ∷ []) ≡ start)
    → place_behind (if is then start else comment) (said ++ 10 ∷ []) ≡ start
goes_on true said none more = cc
goes_on false said none more = more none

-- a comment that has begun goes on to its line feed
pub comment_ends : (said : List ℕ) → list_any (λ byte. byte == 10) said ≡ false → place_behind comment (said ++ 10 ∷ []) ≡ start
comment_ends [] none = refl
comment_ends (byte ∷ said) none = goes_on (byte == 10) said none (comment_ends said)

-- a byte of it isn't left, nor those behind it
leaves_on : (is : Bool) (said : List ℕ) → (is || list_any (λ byte. byte == 10) said) ≡ false
    → (list_any (λ byte. byte == 10) said ≡ false → bare comment (said ++ 10 ∷ []) ≡ [])
    → bare (if is then start else comment) (said ++ 10 ∷ []) ≡ []
leaves_on true said none more = cc
leaves_on false said none more = more none

-- nothing of it is left
pub none_left : (said : List ℕ) → list_any (λ byte. byte == 10) said ≡ false → bare comment (said ++ 10 ∷ []) ≡ []
none_left [] none = refl
none_left (byte ∷ said) none = leaves_on (byte == 10) said none (none_left said)

-- a comment's line
abbrev pub line_of : List ℕ → List ℕ
line_of said = 35 ∷ 32 ∷ (said ++ 10 ∷ [])

-- behind comments and one more a line begins
pub place_of_more : (comments said more : List ℕ) → place_behind start comments ≡ start → list_any (λ byte. byte == 10) said ≡ false → more ≡ line_of said
    → place_behind start (comments ++ more) ≡ start
place_of_more comments said more at none is =
    ap (λ more. place_behind start (comments ++ more)) is
    ∙ (place_of_both start comments (line_of said) ∙ (ap (λ place. place_behind place (line_of said)) at ∙ comment_ends said none))

-- and nothing is left of them
pub bare_of_more : (comments said more : List ℕ) → place_behind start comments ≡ start → bare start comments ≡ [] → list_any (λ byte. byte == 10) said ≡ false → more ≡ line_of said
    → bare start (comments ++ more) ≡ []
bare_of_more comments said more at left none is =
    ap (λ more. bare start (comments ++ more)) is
    ∙ (bare_of_both start comments (line_of said)
    ∙ (ap (λ bytes. bytes ++ bare (place_behind start comments) (line_of said)) left
    ∙ (ap (λ place. bare place (line_of said)) at ∙ none_left said none)))

-- behind a line feed a line begins
pub behind_feed : (place : Place) (byte : ℕ) (bytes : List ℕ) → (slice_index_or (byte ∷ bytes) (length bytes) 0 == 10) ≡ true → place_behind place (byte ∷ bytes) ≡ start
behind_feed place byte [] is = ap (λ is. if is then start else if is_comment place byte then comment else line) is
behind_feed place byte (next ∷ bytes) is = behind_feed (behind place byte) next bytes is

-- so behind a text that such bytes end
pub line_begins : (text bytes : List ℕ) → (length bytes ≡ 0 → ⊥) → (slice_index_or bytes (length bytes - 1) 0 == 10) ≡ true → place_behind start (text ++ bytes) ≡ start
line_begins text [] some is = absurd (some refl)
line_begins text (byte ∷ bytes) some is = place_of_both start text (byte ∷ bytes) ∙ behind_feed (place_behind start text) byte bytes (simp unary_clauses at is)

-- a comment's line, as its parts are put one behind the other
pub line_made : (none hash all whole said : List ℕ) → none ≡ [] → hash ≡ none ++ 35 ∷ 32 ∷ [] → all ≡ hash ++ said → whole ≡ all ++ 10 ∷ [] → whole ≡ line_of said
line_made none hash all whole said e₁ e₂ e₃ e₄ =
    e₄ ∙ ap (λ all. all ++ 10 ∷ []) (e₃ ∙ ap (λ hash. hash ++ said) (e₂ ∙ ap (λ none. none ++ 35 ∷ 32 ∷ []) e₁))

-- comments, and maybe one more
pub added : (is : Bool) (comments said more new : List ℕ) → place_behind start comments ≡ start → bare start comments ≡ [] → list_any (λ byte. byte == 10) said ≡ false → more ≡ line_of said
    → new ≡ (if is then comments ++ more else comments) → (bare start new ≡ []) × (place_behind start new ≡ start)
added true comments said more new at left none is e = (
  ap (λ new. bare start new) e ∙ bare_of_more comments said more at left none is,
  ap (λ new. place_behind start new) e ∙ place_of_more comments said more at none is,
)
added false comments said more new at left none is e = (ap (λ new. bare start new) e ∙ left, ap (λ new. place_behind start new) e ∙ at)
