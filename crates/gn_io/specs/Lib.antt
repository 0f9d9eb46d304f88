-- What is promised: contracts of public functions rest on it.
pub mod Counts
pub mod Input
pub mod Lent
pub mod Parts
pub mod Streams
