pub mod CallableLemmas
pub mod SendLemmas
