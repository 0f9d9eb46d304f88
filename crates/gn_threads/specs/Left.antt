-- A run from where it is opened to what is left of it.
use Rattle.std.specs.Prelude.{◌≡◌, ◌≤◌, ◌==◌, ℕ, Bool, true, false, List, [], length, map, reverse, IfSome, Option, None, Some, vec_len}
use Rattle.std.specs.List.{list_all, slice_get}
use Rattle.gn_rules.specs.declared.config.Config.{Config}
use Rattle.gn_rules.specs.declared.receipt.Receipt.{Receipt}
use Rattle.gn_rules.specs.declared.receipt.Step.{Step}
use Rattle.gn_rules.specs.Flight.{flying}
use Rattle.gn_rules.specs.Limits.{IsCrew, most_links}
use Rattle.gn_shake.specs.declared.role.Role.{Role}
use Rattle.gn_actors.specs.Registry.{AreWhole, registry_state}
use Rattle.gn_actors.specs.declared.who.Numbering.{Numbering}
use Rattle.gn_actors.specs.declared.who.Numbering.TheVariants.{Known, Open}
use Rattle.gn_actors.specs.declared.who.Who.TheVariants.{House}
use Rattle.gn_actors.specs.ActorState.{ActorState}
use Rattle.gn_actors.specs.Who.{number_of}
use Rattle.gn_report.specs.Accounts.{all_receipts, is_routing, unkept_list}
use Rattle.gn_report.specs.Ended.{LinkViews}
use Rattle.gn_report.specs.Looks.{AreCounted, AreRight}
use Rattle.gn_report.specs.declared.account.LinkAccount.{LinkAccount}
use Rattle.gn_report.specs.declared.account.LinkEnd.{LinkEnd}
use Rattle.gn_report.specs.declared.account.LinkEnd.TheVariants.{Whole}
use Rattle.gn_report.specs.declared.unkept.Unkept.{Unkept}
use Rattle.gn_report.specs.declared.kept.Kept.{Kept}
use Rattle.gn_report.specs.declared.looks.Looks.{Looks}
use Rattle.gn_start.specs.Faults.{IsArrivingFault}
use Rattle.gn_start.specs.Numbers.{links_of, workers_of}
use Rattle.gn_start.specs.Over.{AllEnded, IsOver}
use Rattle.gn_start.specs.declared.fault.RunFault.{RunFault}
use Rattle.gn_start.specs.declared.over.Over.{Over}
use Rattle.gn_start.specs.declared.opening.Opened.{Opened}

-- of links in these roles, of which this is known beforehand, link k may come so
abbrev pub may_in : {F : Type 0} → List Role → List F → ℕ → Role → F → Type 0
may_in roles coming k role known = (slice_get roles k ≡ Some role) × (slice_get coming k ≡ Some known)

-- they are over once so many have come
abbrev pub ends_in : List Role → ℕ → Type 0
ends_in roles k = slice_get roles k ≡ None

-- a run is opened for links that may be over so: nobody is out, no intake is made, there are 1 to 64 workers, and no more links come
-- than have numbers, or it isn't known when all have come
pub record IsOpenedFor {B A : Type 0} (is_known : Bool) (ends : ℕ → Type 0) (opened : Opened B A) : Type 0 where
  pub registry : opened.registry ≡ registry_state [] 0 []
  pub reception : (opened.reception.made.intakes ≡ 0) × (opened.reception.is_open ≡ true)
  pub crew : (vec_len opened.outlets ≡ workers_of opened.numbering) × IsCrew (vec_len opened.outlets)
  pub known : (links workers : ℕ) → opened.numbering ≡ Known links workers → (links ≤ most_links) × ends links
  pub unknown : (workers : ℕ) → opened.numbering ≡ Open workers → is_known ≡ false

-- a run that begins: what it is opened with, and where its links come from
pub record BegunState (V B A : Type 0) : Type 0 where
  pub opened : Opened B A
  pub incoming : V

-- the fault of a run whose actors are numbered so, where it has one, by how many of its links came; where it has none, its threads had none
pub record IsFaultAt {Rd W K B A : Type 0} (has_peers : Bool) (m : Numbering) (over : Over Rd W K B A) (fault : Option RunFault) : Type 0 where
  pub stopped : fault ≡ None → over.fault ≡ None
  pub may : IfSome fault (λ fault. IsArrivingFault has_peers (links_of m over.came) (workers_of m) fault)

-- a run is as it must be all of whose actors are home: its router has the configuration of the call, nothing is in flight, and what was
-- counted of its links is right
pub record IsCalm {A : Type 0} (call settings : Config) (steps : List (Step A)) (looks : Looks) : Type 0 where
  pub same : settings ≡ call
  pub tickets : (length (flying (reverse steps)) == 0) ≡ true
  pub right : AreRight looks

-- these are kept of the links that came
abbrev pub HasKept : {Rd W A : Type 0} → Kept Rd W A → List (Option (LinkEnd Rd W A)) → Type 0
HasKept kept all = kept.links.items ≡ all

-- this is left of a run of so many links and workers, beside its house, who routed alone
pub record IsOverWith {Rd W B A O : Type 0} (views : LinkViews Rd W O) (turns batch links workers : ℕ) (over : Over Rd W (Kept Rd W A) B A)
    (house : ActorState A) : Type 0 where
  pub ended : IsOver views HasKept turns batch (Known links workers) workers over
  pub house_is : house.number ≡ number_of (Known links workers) House
  pub routed : is_routing house.receipts ≡ true

-- what is known of a run without a fault that has these steps, of which these are the links' accounts, the receipts of workers and house,
-- and what was counted as links ended; what the house did is known beside it
pub record IsGathered {Rd W A O : Type 0} (views : LinkViews Rd W O) (turns batch : ℕ) (steps : List (Step A))
    (links : List (LinkAccount Rd W A)) (workers : List (Unkept (Receipt A))) (house : Unkept (Receipt A)) (looks : Looks) : Type 0 where
  pub each : AllEnded turns batch views steps links
  pub counted : AreCounted looks (map (λ link. Some (Whole link)) links)
  pub own : AreWhole steps (all_receipts links workers house)
  pub routes : list_all is_routing (map unkept_list workers) ≡ true
