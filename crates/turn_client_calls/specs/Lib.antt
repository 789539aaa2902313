pub mod Checks
pub mod Plain
pub mod Refusal
pub mod Run
pub mod Settings
pub mod Wanted
