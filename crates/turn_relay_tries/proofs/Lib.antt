pub mod WaitLemmas
