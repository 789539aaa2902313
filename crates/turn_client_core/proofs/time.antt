pub mod LeftLemmas
pub mod PollLemmas
pub mod TransmitLemmas
