pub mod Calls
pub mod Lending
pub mod LifeSteps
pub mod LiveState
pub mod Lives
