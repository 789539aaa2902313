pub mod CallableLemmas
