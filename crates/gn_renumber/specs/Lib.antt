pub mod Moved
pub mod Renumbered
