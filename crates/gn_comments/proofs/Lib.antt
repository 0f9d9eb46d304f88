pub mod CommentLemmas
pub mod SinkLemmas
pub mod RestLemmas
