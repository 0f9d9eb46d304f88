-- The connections that steps make, from the first step on.
use Rattle.std.proofs.Common.{◌≡◌, ℕ, ◌+◌, ◌<◌, ◌≤◌, List, [], ◌∷◌, ◌++◌, drop, filter, get_or, length, reverse, Option, refl, sym, ap, ◌∙◌, append_assoc, arith}
use Rattle.std.specs.Option.{option_to_list}
use Rattle.std.proofs.lemmas.List.{append-nil, drop_all, drop_more, reverse-append}
use Rattle.std.proofs.lemmas.List.Elements.{filter-append}
use Rattle.gn_rules.specs.declared.receipt.Step.{Step}
use Rattle.gn_rules.specs.History.{connected_of, connections, live, live_connections}
use Rattle.gn_search.specs.Places.{live_from, made_in}

made_both : {A : Type 0} (later earlier : List (Step A)) → connections (later ++ earlier) ≡ connections earlier ++ connections later
made_both [] earlier = sym (append-nil (connections earlier))
made_both (step ∷ later) earlier =
    ap (λ cs. cs ++ option_to_list (connected_of step.reply)) (made_both later earlier) ∙ append_assoc (connections earlier) (connections later) (option_to_list (connected_of step.reply))

made_reversed : {A : Type 0} (steps : List (Step A)) → connections (reverse steps) ≡ made_in steps
made_reversed [] = refl
made_reversed (step ∷ steps) =
    ap connections (reverse-append (step ∷ []) steps) ∙ made_both (reverse steps) (step ∷ []) ∙ ap (λ cs. option_to_list (connected_of step.reply) ++ cs) (made_reversed steps)

-- from the first step on all are made
pub all_from : {A : Type 0} (steps : List (Step A)) → live_from steps 0 ≡ live_connections (reverse steps)
all_from steps = ap (filter (live (reverse steps))) (sym (made_reversed steps))

-- after the last step none is made
pub none_from : {A : Type 0} (steps : List (Step A)) (n : ℕ) → length steps ≤ n → live_from steps n ≡ []
none_from steps n h = ap (λ xs. filter (live (reverse steps)) (made_in xs)) (drop_all n steps h)

-- past the last step there is none to add
pub none_at : {A : Type 0} (steps : List (Step A)) (n : ℕ) → length steps ≤ n → live_from steps n ≡ live_from steps (n + 1)
none_at steps n h = none_from steps n h ∙ sym (none_from steps (n + 1) (omega (arith, h)))

-- the one that this step makes, where it is live, comes before those of later steps
pub live_here : {A : Type 0} (steps : List (Step A)) (i : ℕ) (step : Step A) (found : Option ℕ) → i < length steps → step ≡ get_or steps i step
    → option_to_list found ≡ filter (live (reverse steps)) (option_to_list (connected_of step.reply)) → live_from steps i ≡ option_to_list found ++ live_from steps (i + 1)
live_here steps i step found within is found_is =
    ap (λ xs. filter (live (reverse steps)) (made_in xs)) (drop_more steps i step within)
    ∙ ap (λ x. filter (live (reverse steps)) (option_to_list (connected_of x.reply) ++ made_in (drop (i + 1) steps))) (sym is)
    ∙ filter-append (live (reverse steps)) (option_to_list (connected_of step.reply)) (made_in (drop (i + 1) steps))
    ∙ ap (λ cs. cs ++ live_from steps (i + 1)) (sym found_is)
