-- What is promised: contracts of public functions rest on it.
pub mod Answers
pub mod Audit
pub mod Commands
pub mod FaultTexts
pub mod Limits
pub mod Load
pub mod Peers
pub mod Replay
pub mod Reports
pub mod Runs
pub mod Serve
pub mod Served
pub mod Serves
pub mod Show
