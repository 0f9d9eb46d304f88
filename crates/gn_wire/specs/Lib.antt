-- What is promised: contracts of public functions rest on it.
pub mod Equality
pub mod Keys
pub mod Packet
pub mod Encoding
