-- The faults of a run over TCP.
use Rattle.std.proofs.Common.{◌≡◌, ◌<◌, ℕ, true, sym, subst, IfErr, Result, Ok, Err}
use Rattle.gn_start.specs.Faults.{IsArrivingFault}
use Rattle.gn_start.specs.declared.fault.RunFault.{RunFault}
use Rattle.std.specs.Result.{IsErrAnd}

-- a fault that may come of any run may come of one with this link
pub handed_on : {T : Type 0} (link : ℕ) (r : Result T RunFault) (fault : RunFault) → IsErrAnd r (λ e. e ≡ fault)
    → ((links workers : ℕ) → IsArrivingFault true links workers fault)
    → IfErr r (λ fault. (links workers : ℕ) → link < links → IsArrivingFault true links workers fault)
handed_on link (Ok x) fault is holds = tt
handed_on link (Err e) fault is holds = λ links workers below. subst (λ (f : RunFault). IsArrivingFault true links workers f) (sym is) (holds links workers)
