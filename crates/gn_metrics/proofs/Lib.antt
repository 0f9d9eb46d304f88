pub mod HistoryLemmas
pub mod PageLemmas
pub mod QuietLemmas
pub mod TallyLemmas
