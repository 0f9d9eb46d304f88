-- The definitions of loads, and of the histories of runs over TCP.

pub use Rattle.gn_load.specs.Any
pub use Rattle.gn_load.specs.Faults
pub use Rattle.gn_load.specs.Journalled
pub use Rattle.gn_load.specs.JournalledLoads
pub use Rattle.gn_load.specs.Links
pub use Rattle.gn_load.specs.Loads
pub use Rattle.gn_printed.specs.Printed
pub use Rattle.gn_load.specs.Served
