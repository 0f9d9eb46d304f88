pub mod WrittenLemmas
pub mod EndLemmas
