pub mod FramesLemmas
pub mod HeadLemmas
pub mod PiecesLemmas
pub mod ReadingLemmas
pub mod StreamLemmas
