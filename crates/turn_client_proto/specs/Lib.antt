pub mod Channels
pub mod Client
pub mod Delivered
