pub mod ChannelDataLemmas
pub mod DrainLemmas
pub mod ExpiryLemmas
