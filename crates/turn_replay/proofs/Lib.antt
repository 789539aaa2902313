pub mod InputLemmas
pub mod ReadyLemmas
pub mod TraceLemmas
