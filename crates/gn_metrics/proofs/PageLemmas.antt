-- The page of the counts, put together.
use Rattle.std.proofs.Common.{◌≡◌, ℕ, List, [], ◌∷◌, ◌++◌, sym, ap, ◌∙◌, append_assoc, Result, Ok, Err}
use Rattle.std.specs.Prelude.{OnOk, codes, decimal, if◌then◌else◌}
use Rattle.std.specs.Result.{is_ok}
use Rattle.std.specs.List.{flat_map}
use Rattle.std.proofs.lemmas.List.{append-nil}
use Rattle.gn_metrics.specs.declared.page.Row.{Row}
use Rattle.gn_rules.specs.declared.statistics.Counter.{Counter}
use Rattle.gn_numbers.specs.Names.{counter_name}
use Rattle.gn_metrics.specs.declared.look.Look.{Look}
use Rattle.gn_metrics.specs.Counted.{connections_of, count_at, in_flight_of, steps_of}
use Rattle.gn_metrics.specs.Page.{count_text, counter_kind, gauges_text, number_text, row_text, rows_text, steps_help, totals_text}

-- the text of four items
pub four_texts : {X : Type 0} (f : X → List ℕ) (a b c d : X) (s t u v : List ℕ) → f a ≡ s → f b ≡ t → f c ≡ u → f d ≡ v
    → flat_map f (a ∷ b ∷ c ∷ d ∷ []) ≡ s ++ t ++ u ++ v
four_texts f a b c d s t u v first second third last =
    rw (first, second, third, last, append-nil) (sym (append_assoc (s ++ t) u v ∙ append_assoc s t (u ++ v)))

-- three parts, one appended after the other
pub three_parts : {X E : Type 0} (r : Result X E) (old t1 t2 new a b c x y : List ℕ) → t1 ≡ old ++ a → t2 ≡ t1 ++ x → x ≡ b
    → OnOk r (new ≡ t2 ++ y) → y ≡ c → OnOk r (new ≡ old ++ (a ++ b ++ c))
three_parts (Ok v) old t1 t2 new a b c x y first second is last also =
    last ∙ ap (λ (xs : List ℕ). xs ++ y) (second ∙ ap (λ (xs : List ℕ). xs ++ x) first ∙ ap (λ (xs : List ℕ). (old ++ a) ++ xs) is)
    ∙ ap (λ (xs : List ℕ). ((old ++ a) ++ b) ++ xs) also ∙ append_assoc (old ++ a) b c ∙ append_assoc old a (b ++ c)
    ∙ ap (λ (xs : List ℕ). old ++ xs) (sym (append_assoc a b c))
three_parts (Err e) old t1 t2 new a b c x y first second is last also = _

-- what stands before the value of a row, in pieces
abbrev before_value : Row → List ℕ
before_value row =
    codes "# HELP tineflax_" ++ (row.name.now ++ (row.ending.now ++ (codes " " ++ (row.help.now ++ (codes "\n# TYPE tineflax_" ++ (row.name.now
    ++ (row.ending.now ++ (row.kind.now ++ (codes "tineflax_" ++ (row.name.now ++ (row.ending.now ++ (codes " " ++ []))))))))))))

-- they, its value and the end of its line are its text
row_put_together : (row : Row) → before_value row ++ (decimal row.value ++ codes "\n") ≡ row_text row
row_put_together row = simp append_assoc

-- a row is written in pieces, before its value and the end of its line
pub row_written : {X E : Type 0} (r : Result X E) (old t1 t2 new : List ℕ) (row : Row) → t1 ≡ old ++ before_value row → t2 ≡ t1 ++ decimal row.value
    → new ≡ (if is_ok r then t2 ++ codes "\n" else t2) → OnOk r (new ≡ old ++ row_text row)
row_written (Ok x) old t1 t2 new row first second last =
    last ∙ ap (λ (xs : List ℕ). xs ++ codes "\n") (second ∙ ap (λ (xs : List ℕ). xs ++ decimal row.value) first)
    ∙ append_assoc (old ++ before_value row) (decimal row.value) (codes "\n") ∙ append_assoc old (before_value row) (decimal row.value ++ codes "\n")
    ∙ ap (λ (xs : List ℕ). old ++ xs) (row_put_together row)
row_written (Err e) old t1 t2 new row first second last = _

-- the rows of these steps are those of the look that has them
pub totals_of : (look : Look) (rows : List Row) (steps : ℕ) → rows_text rows ≡ totals_text look steps → steps ≡ steps_of look
    → rows_text rows ≡ totals_text look (steps_of look)
totals_of look rows steps text is = text ∙ ap (λ (n : ℕ). totals_text look n) is

pub gauges_of : (look : Look) (rows : List Row) (connections in_flight : ℕ) → rows_text rows ≡ gauges_text look connections in_flight
    → connections ≡ connections_of look → in_flight ≡ in_flight_of look → rows_text rows ≡ gauges_text look (connections_of look) (in_flight_of look)
gauges_of look rows connections in_flight text live flying =
    text ∙ ap (λ (n : ℕ). gauges_text look n in_flight) live ∙ ap (λ (n : ℕ). gauges_text look (connections_of look) n) flying

-- the row of a counter's name and count is its text
pub count_put : (look : Look) (counter : Counter) (row : Row) (letters : List ℕ) (value : ℕ)
    → row_text row ≡ number_text (letters ++ codes "_total") counter_kind steps_help value → letters ≡ counter_name counter → value ≡ count_at look counter
    → row_text row ≡ count_text look counter
unfolding count_text
count_put look counter row letters value text name is =
    text ∙ ap (λ (n : List ℕ). number_text (n ++ codes "_total") counter_kind steps_help value) name
    ∙ ap (λ (v : ℕ). number_text (counter_name counter ++ codes "_total") counter_kind steps_help v) is
