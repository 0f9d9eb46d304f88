-- What is promised: contracts of public functions rest on it.
pub mod Names
pub mod Numbers
pub mod Versions
