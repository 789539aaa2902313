pub mod Drive
pub mod Gathering
pub mod Received
