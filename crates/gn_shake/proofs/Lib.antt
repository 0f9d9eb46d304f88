pub mod GreetingLemmas
pub mod ShakingLemmas
