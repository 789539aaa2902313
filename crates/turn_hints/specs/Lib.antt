pub mod First
pub mod Hints
