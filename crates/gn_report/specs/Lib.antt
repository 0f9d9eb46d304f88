-- What is promised: contracts of public functions rest on it.
pub mod Accounts
pub mod Vectors
pub mod Actors
pub mod BodyEnds
pub mod Flaw
pub mod Ended
pub mod Looks
pub mod Seen
pub mod Survey
-- Words of the proofs.
pub mod Routes
pub mod Told
