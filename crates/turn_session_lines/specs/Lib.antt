pub mod Arguments
pub mod Call
pub mod Head
pub mod Reply
pub mod Text
