pub mod FewLemmas
pub mod UnfailedLemmas
pub mod LineLemmas
pub mod SendLemmas
pub mod LoadLemmas
pub mod ServedLemmas
pub mod WritingLemmas
pub mod JournalLemmas
pub mod JournalledLoadLemmas
mod AnyLemmas
mod TakenLemmas
