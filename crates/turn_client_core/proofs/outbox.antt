pub mod FrontLemmas
pub mod OutboxLemmas
pub mod QueueLemmas
pub mod ReplyLemmas
