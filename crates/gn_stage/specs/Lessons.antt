-- What the passes of a stage learn from its rule.
use Rattle.std.specs.Prelude.{◌≡◌, ◌≤◌, ◌↔◌, List, ◌++◌, length}
use Rattle.crossbeam_channel.specs.Fifo.{Held}
use Rattle.gn_stage.specs.Ends.{End}
use Rattle.gn_stage.specs.Rule.{Owned, Known, FitsSide, AreHome, jobs_of, owned_by, with_item}
use mathlib.Core.Option.{none}

-- of an outlet: all that was put, in order, is what was taken and then what the queue holds, and of what was taken the
-- outlet's jobs are its own
pub record IsRunning {J : Type 0} (outlet : End J) (items : List J) : Type 0 where
  pub put : List (Owned J)
  pub taken : List (Owned J)
  pub order : jobs_of put ≡ jobs_of taken ++ items
  pub mine : outlet.jobs ≡ owned_by outlet.number taken

-- at one moment the queue was empty: all that had been put had been taken
abbrev pub WasEmpty : {J : Type 0} → End J → Type 0
WasEmpty {J} outlet = Held {T = J} 0 (IsRunning outlet)

-- of the desk with all ends home: all that was put, in order, is what was taken, what the desk drained, and what the queue holds
pub record IsDraining {J : Type 0} (v : Known J) (items : List J) : Type 0 where
  pub put : List (Owned J)
  pub taken : List (Owned J)
  pub order : jobs_of put ≡ (jobs_of taken ++ v.end.jobs) ++ items
  pub ins : FitsSide v.ins (λ k. none) put
  pub outs : FitsSide v.outs (λ k. none) taken

-- the desk drained one job more, and no more than it knows the queue to have room for
abbrev pub Drained : {J : Type 0} → Known J → J → Known J → Type 0
Drained v x w = (w ≡ with_item v x) × (length w.end.jobs ≤ w.room)

-- of the desk, at any time: where as many intakes are home as were made, all are, since no two have one number
abbrev pub AreCounted : {J : Type 0} → Known J → Type 0
AreCounted v = (length v.ins.home ≡ v.ins.made) ↔ AreHome v.ins
