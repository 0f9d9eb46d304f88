pub mod ActorLemmas
pub mod BatchLemmas
pub mod CountLemmas
pub mod IdleLemmas
pub mod KeptLemmas
pub mod ProgressLemmas
pub mod StepLemmas
pub mod WakingLemmas
