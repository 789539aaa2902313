pub mod AgentLemmas
pub mod FrontLemmas
pub mod ScheduleLemmas
pub mod TransactionLemmas
