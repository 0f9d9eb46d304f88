pub mod FaultLemmas
pub mod EndLemmas
pub mod HoldsLemmas
mod AccountLemmas
pub mod AnsweredLemmas
pub mod AnswerLemmas
pub mod FollowLemmas
pub mod CourseLemmas
pub mod ToldLemmas
mod HouseLemmas
mod HomeLemmas
mod LeftLemmas
mod ListLemmas
mod CameLemmas
mod LoopLemmas
mod OpenLemmas
