-- The two counts of readers tell whether a run waits for any.
use Rattle.std.proofs.Common.{◌≡◌, ◌==◌, ℕ, ◌+◌, Bool, true, false, ◌&&◌, ◌||◌, not, List, [], ◌∷◌, refl, sym, ap, ◌∙◌, arith}
use Rattle.std.specs.List.{count_by}
use Rattle.std.proofs.lemmas.Bool.Decides.{nat_tests}
use Rattle.std.proofs.lemmas.List.Sums.{sum_by-cons}
use Rattle.gn_shake.specs.Greeting.{is_calling}
use Rattle.gn_hub.specs.declared.mark.Mark.{Mark}
use Rattle.gn_hub.specs.Counts.{one_if, reads_called, reads_uncalled, waits_for_none}
use Rattle.gn_hub.specs.HubState.{are_read}

positive : (n : ℕ) → ((1 + n) == 0) ≡ false
positive n = grind (arith, nat_tests)

nothing : (n : ℕ) → 0 + n ≡ n
nothing n = omega arith

-- one link more, by whether its reader is done and whether it calls
more : (all_call done calls rest : Bool) (n k : ℕ) → rest ≡ waits_for_none all_call n k
    → ((done || not (all_call || not calls)) && rest) ≡ waits_for_none all_call (one_if (not done && not calls) + n) (one_if (not done && calls) + k)
more all_call true calls rest n k is = is ∙ sym (ap (λ a. waits_for_none all_call a (0 + k)) (nothing n) ∙ ap (λ b. waits_for_none all_call n b) (nothing k))
more true false false rest n k is = sym (ap (λ b. b && ((0 + k) == 0)) (positive n))
more false false false rest n k is = sym (ap (λ b. b && true) (positive n))
more true false true rest n k is = none ((0 + n) == 0) ∙ sym (ap (λ b. ((0 + n) == 0) && b) (positive k))
  where
    none : (b : Bool) → false ≡ (b && false)
    none true = refl
    none false = refl
more false false true rest n k is = is ∙ sym (ap (λ a. waits_for_none false a (1 + k)) (nothing n))

-- a run waits for none of these readers where the counts say so
pub counted : (all_call : Bool) (links : List Mark) → are_read all_call links ≡ waits_for_none all_call (count_by reads_uncalled links) (count_by reads_called links)
counted true [] = refl
counted false [] = refl
counted all_call (mark ∷ links) =
    more all_call mark.is_done (is_calling mark.role) (are_read all_call links) (count_by reads_uncalled links) (count_by reads_called links) (counted all_call links)
    ∙ ap (λ n. waits_for_none all_call n (one_if (reads_called mark) + count_by reads_called links)) (sym (sum_by-cons (λ m. one_if (reads_uncalled m)) mark links))
    ∙ ap (λ k. waits_for_none all_call (count_by reads_uncalled (mark ∷ links)) k) (sym (sum_by-cons (λ m. one_if (reads_called m)) mark links))
