pub mod Answer
pub mod Trace
