-- A run that begins.
use Rattle.std.specs.Prelude.{◌≡◌, ◌≤◌, ℕ, true, []}
use Rattle.gn_rules.specs.Limits.{IsCrew, most_links}
use Rattle.gn_actors.specs.Registry.{RegistryState, registry_state}
use Rattle.gn_actors.specs.declared.who.Numbering.{Numbering}
use Rattle.gn_actors.specs.declared.who.Numbering.TheVariants.{Known}
use Rattle.gn_stage.specs.Reception.{ReceptionState}
use Rattle.gn_start.specs.Numbers.{workers_of}

-- where the links of a run come from that begins, and how its actors are numbered
pub record BegunState (V : Type 0) : Type 0 where
  pub incoming : V
  pub numbering : Numbering

-- what a run begins with whose actors are numbered so: nobody is out, no intake was made, there is an outlet for each worker, and not
-- too many links, where they are known; and who keeps how they end keeps none
pub record IsBegun {A J : Type 0} (keeps : Type 0) (m : Numbering) (outlets : ℕ) (registry : RegistryState A) (reception : ReceptionState J) : Type 0 where
  pub registry_is : registry ≡ registry_state [] 0 []
  pub reception_is : (reception.made.intakes ≡ 0) × (reception.is_open ≡ true)
  pub crew : (outlets ≡ workers_of m) × IsCrew outlets
  pub known : (links workers : ℕ) → m ≡ Known links workers → links ≤ most_links
  pub keeper : keeps
