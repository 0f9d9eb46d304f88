pub mod HitLemmas
pub mod LegalityLemmas
pub mod LinkLemmas
pub mod MomentLemmas
pub mod PacketLemmas
pub mod PairLemmas
pub mod RememberedLemmas
pub mod RouteLemmas
