-- What is promised: contracts of public functions rest on it.
pub mod Courses
pub mod Headline
pub mod Answers
pub mod OpenAccounts
pub mod OpenRuns
pub mod Ends
-- Words of the proofs.
pub mod House
pub mod Homecoming
pub mod Left
pub mod Told
