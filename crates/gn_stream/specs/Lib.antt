-- What is promised: contracts of public functions rest on it.
pub mod Left
pub mod Unfinished
pub mod Reading
pub mod Steps
pub mod Entries
-- Words of the proofs.
pub mod Lines
pub mod Numbered
pub mod Pieces
