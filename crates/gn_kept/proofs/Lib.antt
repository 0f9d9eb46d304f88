pub mod KeyLists
pub mod SeenLemmas
