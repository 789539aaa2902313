pub mod Buffered
pub mod Front
pub mod Held
