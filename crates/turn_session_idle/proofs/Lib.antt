pub mod UsedLemmas
