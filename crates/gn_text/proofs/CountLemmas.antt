-- A counter that is written: its name, and then its number.
use Rattle.std.proofs.Common.{◌≡◌, ℕ, List, ◌++◌, codes, decimal, sym, ap, ◌∙◌, append_assoc}
use Rattle.gn_rules.specs.declared.statistics.Counter.{Counter}
use Rattle.gn_rules.specs.declared.statistics.Stats.{Stats}
use Rattle.gn_rules.specs.Statistics.{count_in}
use Rattle.gn_numbers.specs.Names.{counter_name}
use Rattle.gn_text.specs.Statistics.{count_text}

pub count_put : (stats : Stats) (counter : Counter) (number : ℕ) (now middle next name : List ℕ) → middle ≡ now ++ (codes " " ++ name)
    → next ≡ middle ++ (codes " " ++ decimal number) → name ≡ counter_name counter → number ≡ count_in counter stats → next ≡ now ++ count_text stats counter
count_put stats counter number now middle next name first second named counts =
    second ∙ ap (λ (xs : List ℕ). xs ++ (codes " " ++ decimal number)) first ∙ append_assoc now (codes " " ++ name) (codes " " ++ decimal number)
    ∙ ap (λ (xs : List ℕ). now ++ xs) (sym (append_assoc (codes " " ++ name) (codes " ") (decimal number)))
    ∙ ap (λ (xs : List ℕ). now ++ (((codes " " ++ xs) ++ codes " ") ++ decimal number)) named
    ∙ ap (λ (n : ℕ). now ++ (((codes " " ++ counter_name counter) ++ codes " ") ++ decimal n)) counts
