-- The definitions of the router under its lock.

pub use Rattle.gn_actors.specs.Annals
pub use Rattle.gn_actors.specs.Registry
pub use Rattle.gn_actors.specs.Tallies
pub use Rattle.gn_actors.specs.Who
pub use Rattle.gn_hub.specs.ActorState
pub use Rattle.gn_hub.specs.Calls
pub use Rattle.gn_hub.specs.HubState
pub use Rattle.gn_hub.specs.Receipts
pub use Rattle.gn_hub.specs.Retired
