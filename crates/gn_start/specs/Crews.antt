-- The workers of a run.
use Rattle.std.specs.Prelude.{◌≡◌, ◌+◌, ◌≤◌, ℕ, suc, zero, List, [], ◌∷◌, map, vec_len, false, true, Option, IfSome}
use Rattle.std.specs.List.{list_all}
use Rattle.gn_actors.specs.Who.{number_of}
use Rattle.gn_actors.specs.declared.who.Numbering.{Numbering}
use Rattle.gn_actors.specs.declared.who.Who.TheVariants.{Worker}
use Rattle.gn_report.specs.Accounts.{is_routing}
use Rattle.gn_stage.specs.declared.site.Site.{Ghosts}
use Rattle.gn_start.specs.Faults.{IsFaultOf}
use Rattle.gn_start.specs.Numbers.{workers_of}
use Rattle.gn_start.specs.declared.crew.Crew.{Crew}
use Rattle.gn_start.specs.declared.crew.Worked.{Worked}
use Rattle.gn_start.specs.declared.fault.RunFault.{RunFault}

-- so many numbers from this one on
abbrev pub count_from : ℕ → ℕ → List ℕ
count_from first zero = []
count_from first (suc n) = first ∷ count_from (suc first) n

-- so many workers were to start, whose actors have the numbers from this one on: all have, where none is lost
pub record IsCrewOf {B A : Type 0} {site : Ghosts B} (first many : ℕ) (crew : Crew B A site) : Type 0 where
  pub numbers : map (λ h. h.promise.start.value.actor.number) crew.handles.items ≡ count_from first (vec_len crew.handles)
  pub most : vec_len crew.handles ≤ many
  pub whole : crew.is_lost ≡ false → vec_len crew.handles ≡ many

-- all of them are joined, where none is lost, and have routed alone
pub record AreWorked {B A : Type 0} (first many : ℕ) (worked : Worked B A) : Type 0 where
  pub numbers : worked.is_lost ≡ false → map (λ me. me.number) worked.actors.items ≡ count_from first many
  pub routed : worked.is_lost ≡ false → list_all (λ me. is_routing me.receipts) worked.actors.items ≡ true

-- the fault of a run whose actors are numbered so, in which a worker ended with it, if it is one: a fault of each run that has numbers
-- for all its workers
pub record IsFaultOfCrew (m : Numbering) (fault : Option RunFault) : Type 0 where
  pub named : (links workers : ℕ) → number_of m (Worker (workers_of m)) ≤ links + links + workers + 1 → IfSome fault (λ fault. IsFaultOf links workers fault)
