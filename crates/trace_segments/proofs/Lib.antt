pub mod MarkLemmas
pub mod HeadLemmas
pub mod PositionLemmas
pub mod RunLemmas
pub mod RecordLemmas
