-- What is promised: contracts of public functions rest on it.
pub mod Frames
pub mod Reassembly
-- Words of the proofs.
pub mod Held
pub mod Pieces
