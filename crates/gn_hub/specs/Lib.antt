-- What is promised: contracts of public functions rest on it.
pub mod ActorState
pub mod Calls
pub mod HubState
pub mod Receipts
pub mod Retired
-- Words of the proofs.
pub mod Counts
pub mod Waking
