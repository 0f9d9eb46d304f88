-- What is promised: contracts of public functions rest on it.
pub mod Fields
pub mod Grammar
pub mod Reading
pub mod Refusals
pub mod Encoding
pub mod Views
