-- What is promised: contracts of public functions rest on it.
pub mod Any
pub mod Faults
pub mod Journalled
pub mod JournalledLoads
pub mod Links
pub mod Loads
pub mod Served
