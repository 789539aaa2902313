pub mod FailureLemmas
pub mod NextLemmas
pub mod OnceLemmas
pub mod SleepLemmas
pub mod SpaceLemmas
