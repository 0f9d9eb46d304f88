-- What is promised: contracts of public functions rest on it.
pub mod Any
pub mod Links
pub mod Ran
pub mod Serves
pub mod Stopping
pub mod Tallies
-- Words of the proofs.
pub mod Newcomers
pub mod Owing
pub mod Rates
