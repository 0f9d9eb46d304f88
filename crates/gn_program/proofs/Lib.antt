pub mod CommandLemmas
mod ConfigLemmas
mod PageLemmas
pub mod ServeLemmas
mod WordLemmas
