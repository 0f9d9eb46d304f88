-- What is promised: contracts of public functions rest on it.
pub mod Packets
pub mod Pair
pub mod Route
