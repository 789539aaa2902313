pub mod CallsLemmas
pub mod KnownLemmas
pub mod LineLemmas
pub mod ReadLemmas
pub mod StepLemmas
pub mod TalkLemmas
