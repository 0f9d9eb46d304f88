pub mod FitLemmas
pub mod LastLemmas
pub mod RegistryLemmas
pub mod Steps
pub mod TallyLemmas
pub mod WhoLemmas
