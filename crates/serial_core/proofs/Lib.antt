pub mod OutcomeLemmas
pub mod GrownLemmas
