-- What the house did with a job.
use Rattle.std.proofs.Common.{◌≡◌, ◌++◌, ◌∷◌, ◌∙◌, Bool, List, [], ap, filter, is_some, map, not, refl, sym, true, false, append-nil, cond, ◌&&◌}
use Rattle.std.specs.List.{list_all}
use Rattle.std.proofs.lemmas.List.Elements.{filter-append}
use Rattle.std.proofs.lemmas.List.Folds.{list_all-map}
use Rattle.gn_rules.specs.declared.event.Event.{Event}
use Rattle.gn_rules.specs.declared.receipt.Receipt.{Receipt}
use Rattle.gn_rules.specs.History.{ticket_of}
use Rattle.gn_hub.specs.ActorState.{ActorState, with_receipt}
use Rattle.gn_bodies.specs.Events.{link_events}
use Rattle.gn_bodies.proofs.EventLemmas.{events-receipt}
use Rattle.gn_report.specs.Accounts.{are_houses, is_houses}
use Rattle.gn_report.proofs.ConfirmedLemmas.{one_own}

one_out : {X : Type 0} (p : X → Bool) (x : X) → p x ≡ false → filter p (x ∷ []) ≡ []
one_out p x e = rw e refl

-- with one receipt more, of a route, it has no other event more
pub no_event_more : {A : Type 0} (me us : ActorState A) (r : Receipt A) → is_some (ticket_of r.event) ≡ true → us ≡ with_receipt me r → link_events us ≡ link_events me
no_event_more {A} me us r routes is =
    let is_link : Event A → Bool = λ event. not (is_some (ticket_of event)) in
    let all : List (Event A) = map (λ (x : Receipt A). x.event) me.receipts in
    let none : filter is_link (r.event ∷ []) ≡ [] = one_out is_link r.event (ap not routes) in
    ap (filter is_link) (events-receipt me us r is) ∙ filter-append is_link all (r.event ∷ []) ∙ ap (λ es. filter is_link all ++ es) none ∙ append-nil (filter is_link all)

-- what is asked of each event is asked of those but the routes, where the routes pass
but_routes : {X : Type 0} (p q : X → Bool) → ((x : X) → q x ≡ true → p x ≡ true) → (xs : List X) → list_all p xs ≡ list_all p (filter (λ x. not (q x)) xs)
but_routes p q passes [] = refl
but_routes p q passes (x ∷ xs) =
    let rest = but_routes p q passes xs in
    elim (q x) as (λ b. q x ≡ b → (p x && list_all p xs) ≡ list_all p (cond (not b) (x ∷ filter (λ y. not (q y)) xs) (filter (λ y. not (q y)) xs))) [
      | true ↦ λ is. rw (passes x is) rest
      | false ↦ λ is. ap (λ b. p x && b) rest
    ] refl

-- receipts are of the house's events as far as those but the routes are
houses_by : {A : Type 0} (originates : Bool) (me : ActorState A) → are_houses originates me.receipts ≡ list_all (is_houses originates) (link_events me)
houses_by {A} originates me =
    sym (list_all-map (is_houses originates) (λ (r : Receipt A). r.event) me.receipts)
    ∙ but_routes (is_houses originates) (λ (e : Event A). is_some (ticket_of e)) (one_own originates) (map (λ (r : Receipt A). r.event) me.receipts)

-- who has made none but routes since has made the house's events alone, where it had
pub houses_still : {A : Type 0} (originates : Bool) (me us : ActorState A) → link_events us ≡ link_events me → are_houses originates me.receipts ≡ true → are_houses originates us.receipts ≡ true
houses_still originates me us alone own = houses_by originates us ∙ (ap (list_all (is_houses originates)) alone ∙ (sym (houses_by originates me) ∙ own))
