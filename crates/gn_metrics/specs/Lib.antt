-- What is promised: contracts of public functions rest on it.
pub mod Counted
pub mod Counting
pub mod Histories
pub mod Page
pub mod Scraped
pub mod Sums
