-- What is promised: contracts of public functions rest on it.
pub mod Done
pub mod Events
pub mod Jobs
pub mod ReaderRows
pub mod Stops
pub mod Written
-- Words of the proofs.
pub mod Writing
pub mod Admitting
pub mod Reading
