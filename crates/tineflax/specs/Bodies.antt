-- The definitions of what the threads of a run do.

pub use Rattle.gn_bodies.specs.Done
pub use Rattle.gn_bodies.specs.Stops
pub use Rattle.gn_bodies.specs.Events
pub use Rattle.gn_bodies.specs.Jobs
pub use Rattle.gn_bodies.specs.ReaderRows
pub use Rattle.gn_bodies.specs.Written
