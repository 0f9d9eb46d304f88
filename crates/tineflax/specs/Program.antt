-- The definitions of command lines.

pub use Rattle.gn_program.specs.Answers
pub use Rattle.gn_program.specs.Audit
pub use Rattle.gn_program.specs.Commands
pub use Rattle.gn_comments.specs.Comments
pub use Rattle.gn_words.specs.ConfigTexts
pub use Rattle.gn_program.specs.FaultTexts
pub use Rattle.gn_program.specs.Load
pub use Rattle.gn_words.specs.Options
pub use Rattle.gn_program.specs.Replay
pub use Rattle.gn_program.specs.Serve
pub use Rattle.gn_program.specs.Serves
pub use Rattle.gn_program.specs.Show
pub use Rattle.gn_comments.specs.Sinks
