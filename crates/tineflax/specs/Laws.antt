-- The definitions of the laws of whole histories, and of paths.

pub use Rattle.gn_laws.specs.Connections
pub use Rattle.gn_laws.specs.Owners
pub use Rattle.gn_laws.specs.Packets
pub use Rattle.gn_laws.specs.Runs
pub use Rattle.gn_laws.specs.Tickets
pub use Rattle.gn_network.specs.Sockets
pub use Rattle.gn_paths.specs.Networks
pub use Rattle.gn_paths.specs.Paths
pub use Rattle.gn_paths.specs.Sends
