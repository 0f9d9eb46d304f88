pub mod Interleavings
pub mod Numbers
pub mod Owners
pub mod Passes
pub mod Settling
pub mod Sides
pub mod Steps
