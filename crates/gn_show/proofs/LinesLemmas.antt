-- Steps of a history that are shown one by one.
use Rattle.std.proofs.Common.{◌≡◌, ◌+◌, ◌++◌, ◌∙◌, ℕ, List, [], ◌∷◌, length, reverse, sym, ap, arith, append_assoc, append-nil}
use Rattle.std.proofs.lemmas.List.{reverse-append}
use Rattle.std.specs.declared.alloc.Global.{Global}
use Rattle.gn_rules.specs.declared.receipt.Step.{Step}
use Rattle.gn_show.specs.declared.form.Form.{Form}
use Rattle.gn_show.specs.declared.form.Form.TheVariants.{Plain, Json, Rows}
use Rattle.gn_show.specs.declared.flight.Flight.{Flight}
use Rattle.gn_show.specs.Kept.{Fits, Follows}
use Rattle.gn_show.specs.Times.{place_of}
use Rattle.gn_show.specs.Shown.{head_of, line_of, lines_from, text_of}

-- one step more before the others, the newest first
reverse_more : (made past : List (Step Global)) (step : Step Global) → reverse (step ∷ made) ++ past ≡ reverse made ++ step ∷ past
reverse_more made past step =
    ap (λ (xs : List (Step Global)). xs ++ past) (reverse-append (step ∷ []) made) ∙ append_assoc (reverse made) (step ∷ []) past

-- the lines of steps, and after them those of others
lines_both : (form : Form) (times : List (List ℕ)) (past : List (Step Global)) (index : ℕ) (made more : List (Step Global))
    → lines_from form times past index (made ++ more) ≡ lines_from form times past index made ++ lines_from form times (reverse made ++ past) (index + length made) more
lines_both form times past index [] more = ap (λ (n : ℕ). lines_from form times past n more) (omega arith)
lines_both form times past index (step ∷ made) more =
    let first : List ℕ = lines_from form times (step ∷ past) (index + 1) made in
    ap (λ (xs : List ℕ). line_of form past (place_of times index) step ++ xs)
    (lines_both form times (step ∷ past) (index + 1) made more
    ∙ ap (λ (before : List (Step Global)). first ++ lines_from form times before (index + 1 + length made) more) (sym (reverse_more made past step))
    ∙ ap (λ (n : ℕ). first ++ lines_from form times (reverse (step ∷ made) ++ past) n more) (omega arith))
    ∙ sym (append_assoc (line_of form past (place_of times index) step) first _)

-- an index that counts from 0
none_before : (n : ℕ) → 0 + n ≡ n
none_before n = omega arith

-- what is shown of steps, and after it the lines of others
pub text_both : (form : Form) (times : List (List ℕ)) (made more : List (Step Global)) → text_of form times (made ++ more) ≡ text_of form times made ++ lines_from form times (reverse made) (length made) more
text_both form times made more =
    let first : List ℕ = lines_from form times [] 0 made in
    ap (λ (xs : List ℕ). head_of form ++ xs)
    (lines_both form times [] 0 made more
    ∙ ap (λ (before : List (Step Global)). first ++ lines_from form times before (0 + length made) more) (append-nil (reverse made))
    ∙ ap (λ (n : ℕ). first ++ lines_from form times (reverse made) n more) (none_before (length made)))
    ∙ sym (append_assoc (head_of form) first _)

-- one step more
pub text_more : (form : Form) (times : List (List ℕ)) (made : List (Step Global)) (step : Step Global) → text_of form times (made ++ step ∷ []) ≡ text_of form times made ++ line_of form (reverse made) (place_of times (length made)) step
text_more form times made step =
    text_both form times made (step ∷ []) ∙ ap (λ (xs : List ℕ). text_of form times made ++ xs) (append-nil (line_of form (reverse made) (place_of times (length made)) step))

-- what is kept of no step
pub fits_none : (form : Form) (flight : Flight) → Follows flight [] → Fits form flight []
fits_none Plain flight none = tt
fits_none Json flight none = none
fits_none Rows flight none = none
