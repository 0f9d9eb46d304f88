-- The definitions of replays and audits.

pub use Rattle.gn_replay.specs.Audits
pub use Rattle.gn_replay.specs.Events
pub use Rattle.gn_replay.specs.Explained
pub use Rattle.gn_replay.specs.Faults
pub use Rattle.gn_replay.specs.Links
pub use Rattle.gn_replay.specs.Pieces
pub use Rattle.gn_replay.specs.ReplayHistory
pub use Rattle.gn_replay.specs.ReplayText
pub use Rattle.gn_replay.specs.Replays
pub use Rattle.gn_replay.specs.Routes
pub use Rattle.gn_replay.specs.Runs
pub use Rattle.gn_stream.specs.Left
