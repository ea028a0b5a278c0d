pub mod AnswerLemmas
pub mod CycleLemmas
pub mod ServingLemmas
