pub mod ChannelDataLemmas
pub mod FramingLemmas
pub mod PollingLemmas
pub mod UsesLemmas
