-- Faults that a run may meet.
use Rattle.std.proofs.Common.{◌≡◌, ℕ, Bool, true, false, List, length, Result, Ok, Err, sym, subst}
use Rattle.std.specs.Prelude.{IfErr, IsErrAnd}
use Rattle.std.proofs.lemmas.Result.{err_from_is_err_and}
use Rattle.gn_start.specs.declared.fault.RunFault.{RunFault}
use Rattle.gn_start.specs.declared.fault.RunFault.TheVariants.{Listen, Call, Link, NoMemory}
use Rattle.gn_links.specs.declared.split.SplitFault.{SplitFault}
use Rattle.gn_links.specs.declared.split.SplitFault.TheVariants as split
use Rattle.gn_links.specs.Split.{IsSplitFault}
use Rattle.gn_rules.specs.Limits.{IsCrew}
use Rattle.gn_start.specs.Faults.{IsArrivingFault, IsFaultOf, IsWholeFault, of_split}

-- where a `?` hands a fault on, what holds of the fault holds of the result
pub handed_on : {T : Type 0} (P : RunFault → Type 0) (r : Result T RunFault) (fault : RunFault) → IsErrAnd r (λ e. e ≡ fault) → P fault → IfErr r P
handed_on P r fault at holds = let p = err_from_is_err_and r at in subst (λ x. IfErr x P) (sym p.1) (subst P (sym p.2) holds)

-- the fault of a run whose links couldn't be taken apart
pub split_is_fault : (may : List Bool) (workers : ℕ) (fault : SplitFault) → IsSplitFault may fault → IsWholeFault may workers (of_split fault)
split_is_fault may workers (split.Link k) one = one
split_is_fault may workers split.NoMemory one = tt

-- what it may be once they were taken apart it may be where they are there whole
pub in_whole : (may : List Bool) (workers : ℕ) (fault : RunFault) → IsFaultOf (length may) workers fault → IsWholeFault may workers fault
in_whole may workers (Link k) holds = absurd holds
in_whole may workers fault holds = holds

-- what it may be where all links are there it may be where they come one after another
pub in_arriving : (has_peers : Bool) (links workers : ℕ) (fault : RunFault) → IsFaultOf links workers fault → IsArrivingFault has_peers links workers fault
in_arriving has_peers links workers Listen holds = absurd holds
in_arriving has_peers links workers (Call k) holds = absurd holds
in_arriving has_peers links workers (Link k) holds = absurd holds
in_arriving has_peers links workers fault holds = holds

-- where there are no peers the two are the same
pub without_peers : (links workers : ℕ) (fault : RunFault) → IsArrivingFault false links workers fault → IsFaultOf links workers fault
without_peers links workers Listen holds = absurd (cc)
without_peers links workers (Call k) holds = let no : false ≡ true = holds.0 in absurd (cc)
without_peers links workers (Link k) holds = let no : false ≡ true = holds.0 in absurd (cc)
without_peers links workers fault holds = holds

-- so of a run with as many workers as it may have, over links of which as much is known
pub err_without_peers : {T E : Type 0} (of : E → RunFault) (may : List Bool) (links workers : ℕ) (r : Result T E) → length may ≡ links
    → IfErr r (λ e. IsCrew workers → IsArrivingFault false links workers (of e)) → IfErr r (λ e. IsCrew workers → IsWholeFault may workers (of e))
err_without_peers of may links workers (Ok x) many holds = tt
err_without_peers of may links workers (Err e) many holds =
    λ crew. in_whole may workers (of e) (subst (λ n. IsFaultOf n workers (of e)) (sym many) (without_peers links workers (of e) (holds crew)))
