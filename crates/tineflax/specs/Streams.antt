-- The definitions of sources and sinks.

pub use Rattle.gn_io.specs.Counts
pub use Rattle.gn_io.specs.Input
pub use Rattle.gn_io.specs.Parts
pub use Rattle.gn_io.specs.Streams
