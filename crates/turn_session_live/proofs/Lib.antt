pub mod HeadLemmas
pub mod TalkLemmas
