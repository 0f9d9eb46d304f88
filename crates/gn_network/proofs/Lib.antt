pub mod OfferLemmas
pub mod RunLemmas
pub mod SpellingLemmas
pub mod TextLemmas
