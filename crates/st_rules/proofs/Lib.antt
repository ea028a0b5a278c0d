pub mod EqualityLemmas
pub mod CollectLemmas
pub mod TypingLaws
pub mod DepthLaws
