pub mod IdlePeers
pub mod IdleState
pub mod Usage
pub mod Usages
pub mod Used
