-- What is left of who ran beside a run.
use Rattle.std.proofs.Common.{◌≡◌, ℕ, List, [], Option, Some, None, Result, Ok, Err, Vec, sym, subst}
use Rattle.std.specs.Prelude.{IfErr, IfOk, IfSome}
use Rattle.gn_rules.specs.declared.receipt.Step.{Step}
use Rattle.gn_report.specs.declared.account.Account.{Account}
use Rattle.gn_report.specs.declared.account.LinkTally.{LinkTally}
use Rattle.gn_report.specs.declared.unkept.Unkept.{Unkept}
use Rattle.gn_threads.specs.declared.halted.Halted.{Halted}
use Rattle.gn_threads.specs.Courses.{AreStepsOf, AreTallies, IsLeft}

-- what holds of a result that is this
pub ok_of : {T E : Type 0} (r : Result T E) (x : T) (P : T → Type 0) → r ≡ Ok x → IfOk r P → P x
ok_of r x P is h = subst (λ q. IfOk q P) is h

pub err_of : {T E : Type 0} (r : Result T E) (e : E) (P : E → Type 0) → r ≡ Err e → IfErr r P → P e
err_of r e P is h = subst (λ q. IfErr q P) is h

-- what is left, where something else holds of the steps, too
pub left_on : {Ran Rest A : Type 0} (becomes : Ran → Type 0) (leaves : Ran → List (Step A) → Rest → Type 0) (rest : Rest) (P Q : List (Step A) → Type 0)
    → ((steps : List (Step A)) → P steps → Q steps) → IsLeft becomes leaves rest P → IsLeft becomes leaves rest Q
left_on becomes leaves rest P Q more h = record { ran = h.ran; steps = h.steps; became = h.became; left = h.left; held = more h.steps h.held }

-- what is left of who would have run beside a run that didn't begin
pub left_unopened : {Ran Rest A : Type 0} (becomes : Ran → Type 0) (leaves : Ran → List (Step A) → Rest → Type 0) (rest : Rest) (halted : Halted A) → halted.history ≡ None
    → (ran : Ran) × becomes ran × leaves ran [] rest → IsLeft becomes leaves rest (λ steps. IfSome halted.history (λ history. history.items ≡ steps))
left_unopened becomes leaves rest halted none left = record {
  ran = left.0;
  steps = [];
  became = left.1;
  left = left.2;
  held = subst (λ kept. IfSome kept (λ history. history.items ≡ [])) (sym none) tt;
}

-- the tallies of what stands of a run that stopped
tallied_some : {A : Type 0} (kept : Option (Unkept (Step A))) (links : Option (Vec LinkTally A)) (steps : List (Step A)) (n : ℕ) → IfSome kept (λ history. history.items ≡ steps)
    → IfSome links (λ tallies. AreTallies steps n tallies.items) → IfSome kept (λ history. IfSome links (λ tallies. AreTallies history.items n tallies.items))
tallied_some None links steps n same tallied = tt
tallied_some {A} (Some history) links steps n same tallied = subst (λ (ss : List (Step A)). IfSome links (λ tallies. AreTallies ss n tallies.items)) (sym same) tallied

pub tallied_as : {Rd W A : Type 0} (answer : Result (Account Rd W A) (Halted A)) (steps : List (Step A)) (links : ℕ) → AreStepsOf answer steps
    → IfErr answer (λ halted. IfSome halted.links (λ tallies. AreTallies steps links tallies.items))
    → IfErr answer (λ halted. IfSome halted.history (λ history. IfSome halted.links (λ tallies. AreTallies history.items links tallies.items)))
tallied_as (Ok account) steps links are tallied = tt
tallied_as (Err halted) steps links are tallied = tallied_some halted.history halted.links steps links are tallied
