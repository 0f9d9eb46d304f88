pub mod OptionLemmas
pub mod WordLemmas
