-- The definitions of the stage queue.

pub use Rattle.gn_stage.specs.Bound
pub use Rattle.gn_stage.specs.Ends
pub use Rattle.gn_stage.specs.Interleaving
pub use Rattle.gn_stage.specs.Jobs
pub use Rattle.gn_stage.specs.Lessons
pub use Rattle.gn_stage.specs.Opened
pub use Rattle.gn_stage.specs.Reception
pub use Rattle.gn_stage.specs.Rule
pub use Rattle.gn_stage.specs.Settled
