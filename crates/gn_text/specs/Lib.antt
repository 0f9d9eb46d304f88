-- What is promised: contracts of public functions rest on it.
pub mod Addresses
pub mod Bytes
pub mod Faults
pub mod Header
pub mod Lines
pub mod Links
pub mod Refusals
pub mod Parsed
pub mod Settings
pub mod Statistics
pub mod Steps
-- Words of the proofs.
pub mod Parts
