-- The definitions of runs of many threads and of their reports.

pub use Rattle.gn_actors.specs.ActorState
pub use Rattle.gn_receipts.specs.Made
pub use Rattle.gn_report.specs.Accounts
pub use Rattle.gn_report.specs.Actors
pub use Rattle.gn_report.specs.BodyEnds
pub use Rattle.gn_report.specs.Flaw
pub use Rattle.gn_report.specs.Survey
pub use Rattle.gn_report.specs.Told
pub use Rattle.gn_threads.specs.Answers
pub use Rattle.gn_threads.specs.Courses
pub use Rattle.gn_threads.specs.Ends
pub use Rattle.gn_start.specs.Faults
pub use Rattle.gn_threads.specs.Headline
pub use Rattle.gn_threads.specs.OpenRuns
pub use Rattle.gn_service.specs.Any
pub use Rattle.gn_service.specs.Links
pub use Rattle.gn_service.specs.Ran
pub use Rattle.gn_service.specs.Serves
pub use Rattle.gn_service.specs.Stopping
