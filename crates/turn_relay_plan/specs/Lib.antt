pub mod Answering
pub mod Attempting
pub mod Failing
pub mod PlanState
pub mod Polling
pub mod Progress
