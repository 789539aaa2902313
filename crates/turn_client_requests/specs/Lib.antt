pub mod RequestAttributes
pub mod Refused
