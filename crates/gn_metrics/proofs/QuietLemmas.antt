-- Comments count nothing.
use Rattle.std.proofs.Common.{◌≡◌, ℕ, Bool, true, false, List, [], ◌∷◌, Option, None, Some, refl, sym, subst, ◌∙◌, arith}
use Rattle.std.specs.Prelude.{◌==◌, if◌then◌else◌}
use Rattle.std.proofs.lemmas.Bool.Decides.{nat_tests}
use Rattle.gn_comments.specs.Comments.{bare}
use Rattle.gn_comments.specs.Comments.Place.{start, line, comment}
use Rattle.gn_rules.specs.declared.statistics.Counter.{Counter}
use Rattle.gn_numbers.specs.Names.{counter_named}
use Rattle.gn_metrics.specs.Counting.{Standing, after_byte, after_bytes, at_first, longer, moved, with_found, word_ended}
use Rattle.gn_metrics.specs.declared.tally.Place.{Place}
use Rattle.gn_metrics.specs.declared.tally.Place.TheVariants.{Start, Event, Word, Rest}

-- a place, with this word and these counts
abbrev stands : Place → List ℕ → List ℕ → Standing
stands place word counts = record { place = place; word = word; counts = counts }

-- what is counted from a place on
abbrev counts : Place → List ℕ → List ℕ → List ℕ → List ℕ
counts place word before bytes = (after_bytes (stands place word before) bytes).counts

is_start : Place → Bool
is_start Start = true
is_start Event = false
is_start Word = false
is_start Rest = false

start_of : (place : Place) → is_start place ≡ true → place ≡ Start
unfolding is_start
start_of Start h = refl
start_of Event h = cc
start_of Word h = cc
start_of Rest h = cc

-- of what is left, what is counted is what is counted without its comments: where a line begins, within a comment, and within another line
record Bare (bytes : List ℕ) : Type 0 where
  first : (word before : List ℕ) → counts Start word before bytes ≡ counts Start word before (bare start bytes)
  within : (word before : List ℕ) → counts Rest word before bytes ≡ counts Start word before (bare comment bytes)
  along : (place : Place) (word before : List ℕ) → is_start place ≡ false → counts place word before bytes ≡ counts place word before (bare line bytes)

kept_or_not : (y : Bool) (s : Standing) (b : ℕ) (rest : List ℕ) → (after_bytes s (if y then rest else b ∷ rest)).counts
    ≡ (if y then after_bytes s rest else after_bytes (after_byte s b) rest).counts
kept_or_not true s b rest = refl
kept_or_not false s b rest = refl

first_case : (x y z : Bool) (bytes word before : List ℕ) → Bare bytes
    → (let place = if x then Start else (if y then Rest else (if z then Word else Event)) in
    let rest = bare (if x then start else (if y then comment else line)) bytes in
    counts place word before bytes ≡ (if y then after_bytes (stands Start word before) rest else after_bytes (stands place word before) rest).counts)
unfolding is_start
first_case true true z bytes word before h = h.first word before
first_case true false z bytes word before h = h.first word before
first_case false true z bytes word before h = h.within word before
first_case false false true bytes word before h = h.along Word word before refl
first_case false false false bytes word before h = h.along Event word before refl

within_case : (x : Bool) (bytes word before : List ℕ) → Bare bytes
    → counts (if x then Start else Rest) word before bytes ≡ counts Start word before (bare (if x then start else comment) bytes)
within_case true bytes word before h = h.first word before
within_case false bytes word before h = h.within word before

along_case : (x : Bool) (bytes : List ℕ) (s : Standing) → Bare bytes → is_start s.place ≡ x
    → (after_bytes s bytes).counts ≡ (after_bytes s (bare (if x then start else line) bytes)).counts
along_case true bytes s h at =
    subst (λ (place : Place). counts place s.word s.counts bytes ≡ counts place s.word s.counts (bare start bytes)) (sym (start_of s.place at))
    (h.first s.word s.counts)
along_case false bytes s h at = h.along s.place s.word s.counts at

event_goes : (x z : Bool) → (z ≡ true → x ≡ false) → is_start (if z then Word else (if x then Start else Event)) ≡ x
unfolding is_start
event_goes true true apart = sym (apart refl)
event_goes true false apart = refl
event_goes false true apart = refl
event_goes false false apart = refl

found_goes : (found : Option Counter) (word before : List ℕ) → is_start (with_found found (stands Word word before)).place ≡ false
unfolding is_start
found_goes None word before = refl
found_goes (Some counter) word before = refl

word_goes : (x y : Bool) (b : ℕ) (word before : List ℕ)
    → (let s = stands Word word before in is_start (if x then moved Start (word_ended s) else (if y then word_ended s else longer s b)).place ≡ x)
unfolding is_start
word_goes true y b word before = refl
word_goes false true b word before = found_goes (counter_named word) word before
word_goes false false b word before = refl

rest_goes : (x : Bool) → is_start (if x then Start else Rest) ≡ x
unfolding is_start
rest_goes true = refl
rest_goes false = refl

apart : (b : ℕ) → (b == 61) ≡ true → (b == 10) ≡ false
apart b h = grind (arith, nat_tests)

-- a line that goes on ends with a line feed, and with nothing else
goes : (place : Place) (word before : List ℕ) (b : ℕ) → is_start place ≡ false → is_start (after_byte (stands place word before) b).place ≡ (b == 10)
unfolding is_start
goes Start word before b h = cc
goes Event word before b h = event_goes (b == 10) (b == 61) (apart b)
goes Word word before b h = word_goes (b == 10) (b == 32) b word before
goes Rest word before b h = rest_goes (b == 10)

bare_counted : (bytes : List ℕ) → Bare bytes
bare_counted [] = record { first = λ word before. refl; within = λ word before. refl; along = λ place word before h. refl }
bare_counted (b ∷ bytes) =
    let h = bare_counted bytes in
    record {
      first = λ word before. first_case (b == 10) (b == 35) (b == 61) bytes word before h
          ∙ sym (kept_or_not (b == 35) (stands Start word before) b (bare (if b == 10 then start else (if b == 35 then comment else line)) bytes));
      within = λ word before. within_case (b == 10) bytes word before h;
      along = λ place word before at. along_case (b == 10) bytes (after_byte (stands place word before) b) h (goes place word before b at);
    }

-- what is counted of a text is what is counted of it without its comments
pub comments_read : (bytes : List ℕ) → (after_bytes at_first bytes).counts ≡ (after_bytes at_first (bare start bytes)).counts
comments_read bytes = (bare_counted bytes).first at_first.word at_first.counts
