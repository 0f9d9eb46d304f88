-- What is promised: contracts of public functions rest on it.
pub mod ActorState
pub mod Annals
pub mod Growing
pub mod Registry
pub mod Tallies
pub mod Who
