pub mod AlikeLemmas
pub mod AnswerLemmas
pub mod MovedLemmas
pub mod NumberLemmas
