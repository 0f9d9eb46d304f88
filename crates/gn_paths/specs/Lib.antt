-- What is promised: contracts of public functions rest on it.
pub mod Networks
pub mod Paths
pub mod Sends
