pub mod WalkLemmas
pub mod GrammarLemmas
pub mod FaultLemmas
pub mod SeenLemmas
pub mod WriteLemmas
pub mod XorLemmas
pub mod PlaceLemmas
