pub mod FirstLemmas
pub mod KeyLemmas
pub mod OnceLemmas
pub mod PhraseLemmas
pub mod RestLemmas
