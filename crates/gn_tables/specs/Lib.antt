-- What is promised: contracts of public functions rest on it.
pub mod Counts
pub mod Flying
pub mod Origins
pub mod Outputs
pub mod Routed
pub mod Servents
