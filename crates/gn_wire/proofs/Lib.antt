pub mod EqualityLemmas
pub mod HeaderLemmas
pub mod KeyLemmas
pub mod KindLemmas
pub mod ReturnLemmas
pub mod EncodingLemmas
