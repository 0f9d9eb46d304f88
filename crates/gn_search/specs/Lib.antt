-- Words of the proofs.
pub mod Invariant
pub mod Place
pub mod Places
pub mod Views
