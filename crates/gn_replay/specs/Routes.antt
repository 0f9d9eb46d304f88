-- What Route events of several tickets do and print.
use Rattle.std.specs.Prelude.{ℕ, List, [], ◌∷◌}
use Rattle.gn_rules.specs.declared.config.Config.{Config}
use Rattle.gn_rules.specs.declared.event.Event.TheVariants.{Route}
use Rattle.gn_rules.specs.declared.receipt.Step.{Step}
use Rattle.gn_rules.specs.Flight.{flying}
use Rattle.gn_replay.specs.Events.{Played, nothing, followed, happens}

-- these tickets are routed, one after the other
abbrev pub routes : {A : Type 0} → Config → List (Step A) → List ℕ → Played A
routes s past [] = nothing past
routes s past (t ∷ ts) = let here = happens s past (Route t) in followed here (routes s here.past ts)

-- what is in flight is routed, in the order of its tickets
abbrev pub routes_all : {A : Type 0} → Config → List (Step A) → Played A
routes_all s past = routes s past (flying past)
