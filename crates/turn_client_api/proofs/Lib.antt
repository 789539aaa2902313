pub mod AddressLemmas
pub mod AllocationLemmas
mod ConfigLemmas
pub mod EarlyExpiryLemmas
pub mod ExpirySteps
pub mod HasLemmas
pub mod StreamEnds
