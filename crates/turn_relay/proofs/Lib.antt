pub mod CallLemmas
pub mod EndLemmas
pub mod NextLemmas
pub mod PlaceLemmas
pub mod PlanLemmas
pub mod RequestLemmas
pub mod RestoreLemmas
