-- What is promised: contracts of public functions rest on it.
pub mod Finished
pub mod Printed
