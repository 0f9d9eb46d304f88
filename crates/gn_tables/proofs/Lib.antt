pub mod MapLemmas
pub mod OutputLemmas
pub mod PlaceLemmas
pub mod SearchLemmas
pub mod ServentLemmas
pub mod OriginLemmas
