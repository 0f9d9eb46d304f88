-- What was admitted on a connection was offered on it, by its reader.
use Rattle.std.proofs.Common.{◌≡◌, ◌==◌, ℕ, true, false, not, cond, List, [], ◌∷◌, ◌++◌, filter, map, reverse, is_some, Some, None, inl, inr, refl, sym, ap, subst, ◌∙◌}
use Rattle.std.specs.List.{cons_option, filter_map, Contains}
use Rattle.std.specs.Option.{option_to_list}
use Rattle.std.proofs.lemmas.Grind.{reverse_onto}
use Rattle.std.proofs.lemmas.List.Elements.{filter-append, filter_map-append, Contains-append_cases, Contains-append_left, Contains-append_right, Contains-push}
use Rattle.std.proofs.lemmas.Map.Views.{exact_unsigned_eq}
use Rattle.gn_wire.specs.Packet.{Packet}
use Rattle.gn_rules.specs.declared.event.Event.{Event}
use Rattle.gn_rules.specs.declared.event.Event.TheVariants.{Admit, Route}
use Rattle.gn_rules.specs.declared.receipt.Receipt.{Receipt}
use Rattle.gn_rules.specs.declared.receipt.Step.{Step}
use Rattle.gn_rules.specs.declared.reply.Reply.{Reply}
use Rattle.gn_rules.specs.declared.reply.Reply.TheVariants.{Admitted}
use Rattle.gn_rules.specs.Flight.{Admission, admission_of}
use Rattle.gn_rules.specs.History.{ticket_of}
use Rattle.gn_bodies.specs.Events.{link_events_in}
use Rattle.gn_paths.specs.Sends.{admitted_by, admitted_on}
use Rattle.gn_paths.proofs.OriginLemmas.{in_cons, none_in}
use Rattle.gn_network.proofs.TextLemmas.{offer}

-- what these steps offer on d
abbrev pub offers_on : {A : Type 0} → ℕ → List (Step A) → List Admission
offers_on d steps = filter (λ offer. offer.origin == d) (filter_map (λ step. admission_of step.event) steps)

-- what a step admits it offers
step_offers : {A : Type 0} (event : Event A) (reply : Reply A) (d : ℕ) (p : Packet) → Contains (option_to_list (admitted_by d event reply)) p
    → Contains (filter (λ offer. offer.origin == d) (cons_option (admission_of event) [])) (offer d p)
step_offers (Admit e q) (Admitted t) d p has =
    elim (e == d) as (λ b. (e == d) ≡ b → Contains (option_to_list (cond b (Some q) None)) p → Contains (cond b (offer e q ∷ []) []) (offer d p)) [
      | false ↦ λ is h. absurd (none_in p h)
      | true ↦ λ is h. elim (in_cons q [] p h) as (λ w. Contains (offer e q ∷ []) (offer d p)) [
        | inl same ↦
            subst (λ r. Contains (offer e q ∷ []) (offer d r)) same
            (subst (λ c. Contains (offer e q ∷ []) (offer c q)) (exact_unsigned_eq e d is) (Contains-push [] (offer e q)))
        | inr none ↦ absurd (none_in p none)
      ]
    ] refl has
step_offers (Admit e q) reply d p has = absurd (none_in p has)
step_offers event reply d p has = absurd (none_in p has)

-- one step more offers after those before it
offers_more : {A : Type 0} (step : Step A) (past : List (Step A)) (d : ℕ) → offers_on d (reverse (step ∷ past)) ≡ offers_on d (reverse past) ++ offers_on d (step ∷ [])
offers_more {A} step past d =
    ap (offers_on d) (reverse_onto past step [])
    ∙ ap (filter (λ (offer : Admission). offer.origin == d)) (filter_map-append (λ (step : Step A). admission_of step.event) (reverse past) (step ∷ []))
    ∙ filter-append (λ (offer : Admission). offer.origin == d) (filter_map (λ (step : Step A). admission_of step.event) (reverse past)) (filter_map (λ (step : Step A). admission_of step.event) (step ∷ []))

-- what was ever admitted on d was offered on it
pub admitted_offered : {A : Type 0} (past : List (Step A)) (d : ℕ) (p : Packet) → Contains (admitted_on past d) p → Contains (offers_on d (reverse past)) (offer d p)
admitted_offered [] d p has = absurd (none_in p has)
admitted_offered {A} (step ∷ past) d p has =
    subst (λ offers. Contains offers (offer d p)) (sym (offers_more step past d))
    (elim (Contains-append_cases (admitted_on past d) (option_to_list (admitted_by d step.event step.reply)) p has) as (λ w. Contains (offers_on d (reverse past) ++ offers_on d (step ∷ [])) (offer d p)) [
      | inl before ↦ Contains-append_left (offers_on d (reverse past)) (offers_on d (step ∷ [])) (offer d p) (admitted_offered past d p before)
      | inr now ↦ Contains-append_right (offers_on d (reverse past)) (offers_on d (step ∷ [])) (offer d p) (step_offers step.event step.reply d p now)
    ])

-- a packet that is offered is one of the packets
pub offered_packet : (d : ℕ) (packets : List Packet) (p : Packet) → Contains (map (offer d) packets) (offer d p) → Contains packets p
offered_packet d [] p has = absurd (none_in (offer d p) has)
offered_packet d (q ∷ packets) p has =
    elim (in_cons (offer d q) (map (offer d) packets) (offer d p) has) as (λ w. Contains (q ∷ packets) p) [
      | inl same ↦ subst (λ r. Contains (q ∷ packets) r) (ap (λ (a : Admission). a.packet) same) (Contains-append_left (q ∷ []) packets q (Contains-push [] q))
      | inr later ↦ Contains-append_right (q ∷ []) packets p (offered_packet d packets p later)
    ]

-- routes offer nothing
event_offers : {A : Type 0} (event : Event A) (es : List (Event A))
    → filter_map admission_of (cond (not (is_some (ticket_of event))) (event ∷ es) es) ≡ cons_option (admission_of event) (filter_map admission_of es)
event_offers (Route t) es = refl
event_offers event es = refl

-- a reader's receipts offer what its events offer except the routes
pub receipts_offer : {A : Type 0} (receipts : List (Receipt A)) → filter_map (λ r. admission_of r.event) receipts ≡ filter_map admission_of (link_events_in receipts)
receipts_offer [] = refl
receipts_offer {A} (r ∷ receipts) =
    ap (cons_option (admission_of r.event)) (receipts_offer receipts) ∙ sym (event_offers r.event (link_events_in receipts))
