-- The definitions of IDs, headers and descriptors.

pub use Rattle.gn_wire.specs.Encoding
pub use Rattle.gn_wire.specs.Equality
pub use Rattle.gn_wire.specs.Packet
pub use Rattle.gn_wire.specs.Keys
