-- What is promised: contracts of public functions rest on it.
pub mod Halves
pub mod Split
pub mod Memory
