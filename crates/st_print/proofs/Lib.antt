pub mod AppendLemmas
pub mod NumberLemmas
