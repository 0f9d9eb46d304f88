-- What is promised: contracts of public functions rest on it.
pub mod ConfigTexts
pub mod Options
pub mod Pages
pub mod Rows
pub mod Sayings
