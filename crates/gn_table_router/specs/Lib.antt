-- Words of the proofs.
pub mod Followed
pub mod Sent
pub mod Tabled
