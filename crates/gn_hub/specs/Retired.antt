-- What a link left that has ended, once both its actors are home.
use Rattle.std.specs.Prelude.{◌≡◌, ◌≤◌, ◌<◌, ◌^◌, ◌==◌, ℕ, true, false, List, length, reverse, take, Option, Some}
use Rattle.gn_rules.specs.declared.receipt.Step.{Step}
use Rattle.gn_rules.specs.Flight.{flying}
use Rattle.gn_rules.specs.History.{live}
use Rattle.gn_actors.specs.ActorState.{ActorState}
use Rattle.gn_actors.specs.Annals.{Fits}
use Rattle.gn_hub.specs.declared.retiring.Retired.{Retired}

-- what a link left whose actors were these when so many steps were made, of its connection and of the place where its writer found nothing
-- in flight
pub record IsRetired {A : Type 0} (steps : List (Step A)) (reader writer : ActorState A) (conn idle : Option ℕ) (left : Retired A) : Type 0 where
  pub read : left.read.items ≡ reader.receipts
  pub written : left.written.items ≡ writer.receipts
  pub fits : Fits steps reader
  pub few : (length reader.receipts < 2 ^ 32) × (length writer.receipts < 2 ^ 32)
  pub gone : left.is_gone ≡ true → (c : ℕ) → conn ≡ Some c → live (reverse steps) c ≡ false
  pub same : left.idle ≡ idle
  pub idle_then : (at : ℕ) → idle ≡ Some at
      → (at ≤ length steps) × ((length (flying (reverse (take at steps))) == 0) ≡ true)
