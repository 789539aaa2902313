pub mod DriveLemmas
pub mod ReceivedLemmas
