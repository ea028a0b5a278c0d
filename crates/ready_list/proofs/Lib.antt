pub mod ReadyLemmas
pub mod BestLemmas
pub mod ScheduleLemmas
pub mod MarkLemmas
