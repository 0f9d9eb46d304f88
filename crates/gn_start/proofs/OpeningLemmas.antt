-- How a run begins, whose links are still to come.
use Rattle.std.proofs.Common.{◌≡◌, ◌≤◌, ◌+◌, ℕ, Bool, true, false, Option, Result, Ok, Err, refl, sym, ◌∙◌, subst, arith}
use Rattle.std.specs.Prelude.{IfOk, IfSome}
use Rattle.std.specs.Result.{result_ok}
use Rattle.gn_rules.specs.Limits.{most_links}
use Rattle.gn_actors.specs.Who.{number_of}
use Rattle.gn_actors.specs.declared.who.Numbering.{Numbering}
use Rattle.gn_actors.specs.declared.who.Numbering.TheVariants.{Known, Open}
use Rattle.gn_actors.specs.declared.who.Who.TheVariants.{Worker}
use Rattle.gn_start.specs.Crews.{IsFaultOfCrew}
use Rattle.gn_start.specs.Faults.{IsFaultOf}
use Rattle.gn_start.specs.Numbers.{links_of, workers_of}
use Rattle.gn_start.specs.Table.{EndsBy}
use Rattle.gn_start.specs.declared.fault.RunFault.{RunFault}

-- the workers' numbers are those of a run of so many links and workers
pub crew_within : (m : Numbering) (outlets links workers : ℕ) → outlets ≡ workers_of m → number_of m (Worker (workers_of m)) ≤ links + links + workers + 1 → number_of m (Worker 0) + outlets ≤ links + links + workers + 1
crew_within (Known n v) outlets links workers e low = omega (arith, e, low)
crew_within (Open v) outlets links workers e low = omega (arith, e, low)

crew_in_run : (m : Numbering) (came : ℕ) → number_of m (Worker (workers_of m)) ≤ links_of m came + links_of m came + workers_of m + 1
crew_in_run (Known n v) came = omega arith
crew_in_run (Open v) came = omega arith

-- so a worker's fault is one of the run
pub crew_fault : (m m' : Numbering) (came : ℕ) (fault : Option RunFault) → m' ≡ m → IsFaultOfCrew m fault → IfSome fault (λ f. IsFaultOf (links_of m' came) (workers_of m') f)
crew_fault m m' came fault same is = subst (λ (n : Numbering). IfSome fault (λ f. IsFaultOf (links_of n came) (workers_of n) f)) (sym same) (is.named (links_of m came) (workers_of m) (crew_in_run m came))

-- a run that is known to have all its links has no more than it has actors for
pub ends_by : (m : Numbering) (is_known : Bool) (ends : ℕ → Type 0) → ((links workers : ℕ) → m ≡ Known links workers → (links ≤ most_links) × ends links) → ((workers : ℕ) → m ≡ Open workers → is_known ≡ false)
    → is_known ≡ true → EndsBy m ends
ends_by (Known n v) is_known ends known unknown is = (known n v refl).1
ends_by (Open v) is_known ends known unknown is = let not : true ≡ false = sym is ∙ unknown v refl in absurd (cc not)

-- what is so of what a call gave, where only that is kept
pub some_of_ok : {T E : Type 0} (P Q : T → Type 0) (r : Result T E) (o : Option T) → ((t : T) → P t → Q t) → o ≡ result_ok r → IfOk r P → IfSome o Q
some_of_ok {T} {E} P Q (Ok t) o as_well is so = subst (λ (x : Option T). IfSome x Q) (sym is) (as_well t so)
some_of_ok {T} {E} P Q (Err e) o as_well is so = subst (λ (x : Option T). IfSome x Q) (sym is) tt
