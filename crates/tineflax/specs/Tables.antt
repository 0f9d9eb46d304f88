-- The definitions of a router's tables.

pub use Rattle.gn_kept.specs.Remembered
pub use Rattle.gn_tables.specs.Flying
pub use Rattle.gn_tables.specs.Origins
pub use Rattle.gn_tables.specs.Outputs
pub use Rattle.gn_tables.specs.Servents
