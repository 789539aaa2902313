pub mod Doubts
pub mod Heard
pub mod Life
pub mod Verdict
pub mod Watch
