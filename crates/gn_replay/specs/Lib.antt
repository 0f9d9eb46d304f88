-- What is promised: contracts of public functions rest on it.
pub mod Audits
pub mod Events
pub mod Explained
pub mod Faults
pub mod Links
pub mod Pieces
pub mod Playing
pub mod ReplayHistory
pub mod ReplayText
pub mod Replays
pub mod Routes
pub mod Runs
-- Words of the proofs.
pub mod Judgements
pub mod Outcomes
pub mod Printed
pub mod Sayings
