-- What is promised: contracts of public functions rest on it.
pub mod Made
pub mod Planned
pub mod Seen
-- Words of the proofs.
pub mod Others
