mod RoleLemmas
mod AnyLemmas
mod FaultLemmas
mod ServedLemmas
pub mod TallyLemmas
pub mod KeptLemmas
