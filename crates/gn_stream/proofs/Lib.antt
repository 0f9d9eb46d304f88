pub mod EntryLemmas
pub mod HeaderLemmas
pub mod LineLemmas
pub mod NumberedLemmas
pub mod PassLemmas
pub mod PieceLemmas
pub mod StepLemmas
