-- The steps that are left of a history, one fewer.
use Rattle.std.proofs.Common.{◌≡◌, List, [], ◌∷◌, ◌++◌, refl, sym, ap, append_assoc, Result, Ok, Err, Some}
use Rattle.gn_rules.specs.declared.receipt.Step.{Step}
use Rattle.gn_text.specs.declared.fault.CaptureFault.{CaptureFault}
use Rattle.gn_text.specs.Parsed.{Numbered}
use Rattle.gn_capture.specs.Histories.{IsNextOf, map_result, steps_left}

-- these steps, and after them those that are left
abbrev pub known : {A : Type 0} → List (Step A) → Numbered → Result (List (Step A)) CaptureFault
known head left = map_result (λ more. head ++ more) (steps_left left)

head_more : {X E : Type 0} (head : List X) (x : X) (read : Result (List X) E)
    → map_result (λ more. head ++ more) (map_result (λ xs. x ∷ xs) read) ≡ map_result (λ more. (head ++ x ∷ []) ++ more) read
head_more head x (Ok more) = ap Ok (sym (append_assoc head (x ∷ []) more))
head_more head x (Err e) = refl

-- the next step is known too
pub one_known : {A : Type 0} (head : List (Step A)) (old new : Numbered) (step : Step A) → IsNextOf (Ok (Some step)) (steps_left old) (steps_left new)
    → known (head ++ step ∷ []) new ≡ known head old
one_known head old new step is = sym (rw is (head_more head step (steps_left new)))
