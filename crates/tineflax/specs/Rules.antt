-- The definitions of the rules.

pub use Rattle.gn_rules.specs.Answer
pub use Rattle.gn_rules.specs.Decision
pub use Rattle.gn_rules.specs.Fits
pub use Rattle.gn_rules.specs.Flight
pub use Rattle.gn_rules.specs.History
pub use Rattle.gn_rules.specs.Kept
pub use Rattle.gn_rules.specs.Laws
pub use Rattle.gn_rules.specs.Legality
pub use Rattle.gn_rules.specs.Limits
pub use Rattle.gn_rules.specs.Output
pub use Rattle.gn_rules.specs.Plain
pub use Rattle.gn_rules.specs.Runs
pub use Rattle.gn_rules.specs.SeenEntries
pub use Rattle.gn_rules.specs.Sending
pub use Rattle.gn_rules.specs.ServentLaw
pub use Rattle.gn_rules.specs.Servents
pub use Rattle.gn_rules.specs.Settings
pub use Rattle.gn_rules.specs.Statistics
