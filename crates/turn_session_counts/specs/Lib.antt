pub mod Counters
pub mod Counts
