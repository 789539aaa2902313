pub mod Agent
pub mod Front
pub mod Kept
pub mod Schedule
pub mod TransactionIds
