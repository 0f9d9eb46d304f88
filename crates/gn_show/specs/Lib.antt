-- What is promised: contracts of public functions rest on it.
pub mod Kept
pub mod Plain
pub mod Rows
pub mod Shown
pub mod Subjects
pub mod Times
pub mod Values
pub mod Writers
-- Words of the proofs.
pub mod Pieces
pub mod Showing
pub mod Tokens
