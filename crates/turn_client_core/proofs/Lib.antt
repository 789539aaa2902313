pub mod AlgorithmLemmas
pub mod AuthLemmas
pub mod ResultLemmas
pub mod calls
pub mod incoming
pub mod time
