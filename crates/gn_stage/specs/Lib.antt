-- What is promised: contracts of public functions rest on it.
pub mod Jobs
pub mod Bound
pub mod Ends
pub mod Interleaving
pub mod Settled
pub mod Reception
pub mod Rule
pub mod Lessons
-- Words of the proofs.
pub mod Opened
