-- What a search keeps, one step on.
use Rattle.std.proofs.Common.{◌≡◌, ℕ, List, [], ◌∷◌, ◌++◌, reverse, Ok, Option, Some, None, IfSome, Vec, sym, ap, ◌∙◌, subst}
use Rattle.std.specs.Option.{option_map}
use Rattle.gn_rules.specs.declared.config.Config.{Config}
use Rattle.gn_rules.specs.declared.event.Event.{Event}
use Rattle.gn_rules.specs.declared.reply.Reply.{Reply}
use Rattle.gn_rules.specs.declared.receipt.Step.{Step}
use Rattle.gn_rules.specs.Answer.{answer, IsLegal}
use Rattle.gn_rules.specs.Flight as flight
use Rattle.gn_rules.specs.Flight.{flying_after}
use Rattle.gn_rules.proofs.FlightLemmas.{flying_more}
use Rattle.gn_rules.proofs.PastLemmas.{past_push}
use Rattle.gn_search.specs.Invariant.{IsKept}

-- a list of tickets, where there is one, that goes along
listed : {A : Type 0} (flying now : Option (Vec ℕ A)) (event : Event A) (reply : Reply A) (before after : List ℕ)
    → option_map (λ list. list.items) now ≡ option_map (λ list. flying_after event reply list.items) flying → IfSome flying (λ list. list.items ≡ before)
    → flying_after event reply before ≡ after → IfSome now (λ list. list.items ≡ after)
listed None None event reply before after follows is more = tt
listed None (Some m) event reply before after follows is more = absurd (cc)
listed (Some l) None event reply before after follows is more = tt
listed (Some l) (Some m) event reply before after follows is more =
    let same : m.items ≡ flying_after event reply l.items = cc in
    same ∙ ap (flying_after event reply) is ∙ more

pub kept_more : {A : Type 0} (s : Config) (steps reserved new : List (Step A)) (flying now : Option (Vec ℕ A)) (actor : ℕ) (event : Event A) (reply : Reply A) (step : Step A)
    → IsKept s steps flying → answer s (reverse steps) event ≡ Ok reply → step ≡ record { actor = actor; event = event; reply = reply }
    → reserved ≡ steps → new ≡ reserved ++ step ∷ []
    → option_map (λ list. list.items) now ≡ option_map (λ list. flying_after event reply list.items) flying
    → IsKept s new now
kept_more {A} s steps reserved new flying now actor event reply step kept answered step_is same new_is follows =
    let made : Step A = record { actor = actor; event = event; reply = reply } in
    let longer : new ≡ steps ++ made ∷ [] = new_is ∙ ap (λ xs. xs ++ step ∷ []) same ∙ ap (λ x. steps ++ x ∷ []) step_is in
    let past : reverse new ≡ made ∷ reverse steps = ap reverse longer ∙ past_push steps made in
    record {
      legal = subst (λ (past : List (Step A)). IsLegal s past) (sym past) (answered, kept.legal);
      in_flight =
          listed flying now event reply (flight.flying (reverse steps)) (flight.flying (reverse new)) follows kept.in_flight
          (sym (flying_more s (reverse steps) made kept.legal answered) ∙ sym (ap (λ past. flight.flying past) past));
    }
