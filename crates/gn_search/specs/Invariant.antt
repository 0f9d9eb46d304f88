-- What a search keeps.
use Rattle.std.specs.Prelude.{◌≡◌, ℕ, List, Option, IfSome, Vec, reverse}
use Rattle.gn_rules.specs.declared.config.Config.{Config}
use Rattle.gn_rules.specs.declared.receipt.Step.{Step}
use Rattle.gn_rules.specs.Flight as flight
use Rattle.gn_rules.specs.Answer.{IsLegal}

-- a history that is searched is legal, and the tickets that are listed, where they are, are those in flight
pub record IsKept {A : Type 0} (s : Config) (steps : List (Step A)) (flying : Option (Vec ℕ A)) : Type 0 where
  pub legal : IsLegal s (reverse steps)
  pub in_flight : IfSome flying (λ tickets. tickets.items ≡ flight.flying (reverse steps))
