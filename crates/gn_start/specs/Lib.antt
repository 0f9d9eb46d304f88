-- What is promised: contracts of public functions rest on it.
pub mod Faults
pub mod House
pub mod Incoming
pub mod Numbers
pub mod Over
-- Words of the proofs.
pub mod Begun
pub mod Crews
pub mod Homing
pub mod Joined
pub mod Kept
pub mod Seats
pub mod Table
