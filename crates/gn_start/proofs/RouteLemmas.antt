-- Which events the house and the workers made.
use Rattle.std.proofs.Common.{◌≡◌, ◌∷◌, ◌∙◌, ℕ, Bool, List, [], ap, filter, is_some, map, not, refl, subst, sym, true, false, cond, ◌&&◌}
use Rattle.std.specs.List.{list_all}
use Rattle.std.proofs.lemmas.List.Folds.{list_all-map}
use Rattle.gn_rules.specs.declared.event.Event.{Event}
use Rattle.gn_rules.specs.declared.receipt.Receipt.{Receipt}
use Rattle.gn_rules.specs.History.{ticket_of}
use Rattle.gn_hub.specs.ActorState.{ActorState}
use Rattle.gn_bodies.specs.Events.{link_events}
use Rattle.gn_start.specs.House.{HasOriginated, HasRecalled, IsHouse}
use Rattle.gn_report.specs.Accounts.{are_houses, is_routing}

all_step : {X : Type 0} (b : Bool) (x : X) (rest : List X) (all : Bool) → cond (not b) (x ∷ rest) rest ≡ [] → (rest ≡ [] → all ≡ true) → (b && all) ≡ true
all_step true x rest all none then = then none
all_step false x rest all none then = absurd (cc)

all_but : {X : Type 0} (p : X → Bool) (xs : List X) → filter (λ x. not (p x)) xs ≡ [] → list_all p xs ≡ true
all_but p [] none = refl
all_but p (x ∷ xs) none = all_step (p x) x (filter (λ y. not (p y)) xs) (list_all p xs) none (all_but p xs)

-- has receipts of routes alone
pub routes_alone : {A : Type 0} (me : ActorState A) → link_events me ≡ [] → is_routing me.receipts ≡ true
routes_alone {A} me none =
    sym (list_all-map (λ (e : Event A). is_some (ticket_of e)) (λ (r : Receipt A). r.event) me.receipts) ∙ all_but (λ (e : Event A). is_some (ticket_of e)) (map (λ (r : Receipt A). r.event) me.receipts) none

-- who has made no steps of before again yet
pub none_recalled : {A : Type 0} (recalls : Bool) (me us : ActorState A) → us ≡ me → HasRecalled recalls me us
none_recalled {A} recalls me us is = record { same = ap (λ (x : ActorState A). x.number) is; none = λ no. ap (λ (x : ActorState A). x.receipts) is }

-- who has made some, where there are any
pub some_recalled : {A : Type 0} (recalls : Bool) (me us : ActorState A) → us.number ≡ me.number → (recalls ≡ false → ⊥) → HasRecalled recalls me us
some_recalled {A} recalls me us same some = record { same = same; none = λ no. absurd (some no) }

-- what was made again since, and after that
pub recalled_on : {A : Type 0} (recalls : Bool) (me mid us : ActorState A) → HasRecalled recalls me mid → HasRecalled recalls mid us → HasRecalled recalls me us
recalled_on recalls me mid us first then = record { same = then.same ∙ first.same; none = λ no. then.none no ∙ first.none no }

-- where there are steps of before, by whatever name that goes
pub recalled_as : {A : Type 0} (is now : Bool) (me us : ActorState A) → now ≡ is → HasRecalled now me us → HasRecalled is me us
recalled_as {A} is now me us same then = subst (λ b. HasRecalled b me us) same then

-- who has made nothing since
pub none_originated : {A : Type 0} (originates : Bool) (me us : ActorState A) → us ≡ me → HasOriginated originates me us
none_originated {A} originates me us is = record { same = ap (λ (x : ActorState A). x.number) is; own = λ own. ap (λ (x : ActorState A). are_houses originates x.receipts) is ∙ own }

-- what was made since, and after that
pub originated_on : {A : Type 0} (originates : Bool) (me mid us : ActorState A) → HasOriginated originates me mid → HasOriginated originates mid us → HasOriginated originates me us
originated_on originates me mid us first then = record { same = then.same ∙ first.same; own = λ own. then.own (first.own own) }

-- where the own servent sends descriptors, by whatever name that goes
pub originated_as : {A : Type 0} (is now : Bool) (me us : ActorState A) → now ≡ is → HasOriginated now me us → HasOriginated is me us
originated_as {A} is now me us same then = subst (λ b. HasOriginated b me us) same then

-- so after what was made again before
pub recalled_then : {A : Type 0} (is now : Bool) (me mid us : ActorState A) → HasRecalled is me mid → now ≡ is → HasRecalled now mid us → HasRecalled is me us
recalled_then is now me mid us first same then = recalled_on is me mid us first (recalled_as is now mid us same then)

-- who had made nothing, then made the steps of before again, and then its own events
pub house_at : {A : Type 0} (recalls originates now : Bool) (number : ℕ) (me mid us : ActorState A) → me.number ≡ number → me.receipts ≡ [] → HasRecalled recalls me mid → now ≡ originates
    → HasOriginated now mid us → IsHouse recalls originates number us
house_at {A} recalls originates now number me mid us is fresh before same since =
    let then = originated_as originates now mid us same since in
    record {
      is = then.same ∙ (before.same ∙ is);
      own = λ no. then.own (ap (λ (rs : List (Receipt A)). are_houses originates rs) (before.none no ∙ fresh));
    }
