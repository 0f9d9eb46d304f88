-- What is promised: contracts of public functions rest on it.
pub mod Comments
pub mod Sinks
pub mod Rests
