pub mod Answered
pub mod Client
