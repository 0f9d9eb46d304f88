-- The rule of a stage's channel: what was put is what was taken, and what it holds.
use Rattle.std.specs.Prelude.{◌≡◌, ◌≢◌, ◌==◌, ℕ, ◌+◌, ◌<◌, ◌≤◌, max, List, [], ◌∷◌, ◌++◌, length, map, if◌then◌else◌, All, AllPairs}
use mathlib.Core.Option.{Option, some, none}
use lib.ListN.{get_elem?}
use Rattle.gn_stage.specs.Ends.{End, new_end, with_job, AreAllHome}

-- a job with its owner
pub record Owned (J : Type 0) : Type 0 where
  pub owner : ℕ
  pub job : J

-- a job with its owner
abbrev pub owned : {J : Type 0} → ℕ → J → Owned J
owned p x = record { owner = p; job = x }

-- the jobs, without their owners
abbrev pub jobs_of : {J : Type 0} → List (Owned J) → List J
jobs_of q = map (λ e. e.job) q

-- the jobs of one owner, in order
abbrev pub owned_by : {J : Type 0} → ℕ → List (Owned J) → List J
owned_by p [] = []
owned_by p (e ∷ q) = if e.owner == p then e.job ∷ owned_by p q else owned_by p q

-- of the intakes, or of the outlets, what the desk has: how many were made, and those that came home
pub record Gathered (J : Type 0) : Type 0 where
  pub made : ℕ
  pub home : List (End J)

-- whose a pass is: the desk's, an intake's, an outlet's, or nobody's, since it was joined
pub data Role : Type 0 where
  of_desk : Role
  of_intake : Role
  of_outlet : Role
  joined : Role

-- what a pass knows. The desk's own jobs are those that it drained. The room is the most jobs that the pass knows the queue
-- to have room for.
pub record Known (J : Type 0) : Type 0 where
  pub role : Role
  pub end : End J
  pub room : ℕ
  pub ins : Gathered J
  pub outs : Gathered J

-- no end was made
abbrev pub none_made : {J : Type 0} → Gathered J
none_made = record { made = 0; home = [] }

-- a pass of this role, room and number that has seen nothing
abbrev pub new_pass : {J : Type 0} → Role → ℕ → ℕ → Known J
new_pass role room p = record { role = role; end = new_end p; room = room; ins = none_made; outs = none_made }

-- the desk's pass, as a stage begins
abbrev pub new_desk : {J : Type 0} → Known J
new_desk = new_pass of_desk 0 0

-- a new intake's pass
abbrev pub new_intake : {J : Type 0} → ℕ → ℕ → Known J
new_intake room p = new_pass of_intake room p

-- a new outlet's pass
abbrev pub new_outlet : {J : Type 0} → ℕ → ℕ → Known J
new_outlet room p = new_pass of_outlet room p

-- a pass that was joined
abbrev pub spent : {J : Type 0} → Known J
spent = new_pass joined 0 0

-- a pass that has put, or taken, one job more
abbrev pub with_item : {J : Type 0} → Known J → J → Known J
with_item v x = record v { end = with_job v.end x }

-- one end more was made
abbrev pub one_made : {J : Type 0} → Gathered J → Gathered J
one_made g = record g { made = g.made + 1 }

-- one end more came home
abbrev pub one_home : {J : Type 0} → Gathered J → End J → Gathered J
one_home g e = record g { home = g.home ++ e ∷ [] }

-- the desk after it made an intake for a queue of this room
abbrev pub with_intake : {J : Type 0} → ℕ → Known J → Known J
with_intake room v = record v { ins = one_made v.ins; room = max v.room room }

-- the desk after it made an outlet
abbrev pub with_outlet : {J : Type 0} → Known J → Known J
with_outlet v = record v { outs = one_made v.outs }

-- the desk after this intake came home
abbrev pub with_intake_home : {J : Type 0} → Known J → End J → Known J
with_intake_home v e = record v { ins = one_home v.ins e }

-- the desk after this outlet came home
abbrev pub with_outlet_home : {J : Type 0} → Known J → End J → Known J
with_outlet_home v e = record v { outs = one_home v.outs e }

-- the desk after these outlets came home
abbrev pub with_outlets_home : {J : Type 0} → Known J → List (End J) → Known J
with_outlets_home v ends = record v { outs = record v.outs { home = v.outs.home ++ ends } }

-- the desk that drained these jobs
abbrev pub with_drained : {J : Type 0} → Known J → List J → Known J
with_drained v jobs = record v { end = record v.end { jobs = jobs } }

-- every end that was made came home
abbrev pub AreHome : {J : Type 0} → Gathered J → Type 0
AreHome g = AreAllHome g.made g.home

-- what a desk knows that made so many ends, of which these intakes are home, and no outlet is
pub record IsDeskOf {J : Type 0} (intakes outlets capacity : ℕ) (came : List (End J)) (v : Known J) : Type 0 where
  pub role : v.role ≡ of_desk
  pub undrained : v.end.jobs ≡ []
  pub room : v.room ≤ capacity
  pub ins : v.ins ≡ record { made = intakes; home = came }
  pub outs : v.outs ≡ record { made = outlets; home = [] }

-- all that was put, all that outlets took, what the desk drained, the pass of each intake and outlet that is out, and the
-- desk's pass, and the room of the queue, 0 before there is an intake
pub record Past (J : Type 0) : Type 0 where
  pub put : List (Owned J)
  pub taken : List (Owned J)
  pub drained : List J
  pub in_seat : ℕ → Option ℕ
  pub out_seat : ℕ → Option ℕ
  pub desk : ℕ
  pub room : ℕ

-- what is so of one end that came home: it was made, it isn't out, and its jobs are those that it owns
pub record IsHome {J : Type 0} (made : ℕ) (seat : ℕ → Option ℕ) (all : List (Owned J)) (e : End J) : Type 0 where
  pub below : e.number < made
  pub free : seat e.number ≡ none
  pub whole : e.jobs ≡ owned_by e.number all

-- what the desk has of the intakes, or of the outlets, agrees with the past: no end is out, or owns a job, past those made
pub record FitsSide {J : Type 0} (g : Gathered J) (seat : ℕ → Option ℕ) (all : List (Owned J)) : Type 0 where
  pub later : (k : ℕ) → g.made ≤ k → (seat k ≡ none) × (owned_by k all ≡ [])
  pub home : All (IsHome g.made seat all) g.home
  pub apart : AllPairs (λ a b. a.number ≢ b.number) g.home

-- the desk's pass agrees with the past
pub record FitsDesk {J : Type 0} (p : Past J) (port : ℕ) (v : Known J) : Type 0 where
  pub here : port ≡ p.desk
  pub drained : v.end.jobs ≡ p.drained
  pub room : v.room ≡ p.room
  pub ins : FitsSide v.ins p.in_seat p.put
  pub outs : FitsSide v.outs p.out_seat p.taken

-- a pass agrees with the past
pub record Fits {J : Type 0} (p : Past J) (port : ℕ) (v : Known J) : Type 0 where
  pub as_intake : v.role ≡ of_intake →
      (p.in_seat v.end.number ≡ some port) × (v.end.jobs ≡ owned_by v.end.number p.put) × (v.room ≤ p.room)
  pub as_outlet : v.role ≡ of_outlet →
      (p.out_seat v.end.number ≡ some port) × (v.end.jobs ≡ owned_by v.end.number p.taken)
  pub as_desk : v.role ≡ of_desk → FitsDesk p port v

-- what was put is what outlets took, what the desk drained, and what the queue holds. The desk drains once no end is out,
-- and the queue never holds more than its room.
pub record Invariant {J : Type 0} (items : List J) (views : List (Known J)) : Type 0 where
  pub past : Past J
  pub order : jobs_of past.put ≡ (jobs_of past.taken ++ past.drained) ++ items
  pub ins_last : (k port : ℕ) → past.in_seat k ≡ some port → past.drained ≡ []
  pub outs_last : (k port : ℕ) → past.out_seat k ≡ some port → past.drained ≡ []
  pub few : length past.drained + length items ≤ past.room
  pub fits : (port : ℕ) (v : Known J) → get_elem? views port ≡ some v → Fits past port v
