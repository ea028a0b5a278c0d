pub mod PartLemmas
pub mod TypingLemmas
pub mod CallLemmas
pub mod SelectionLemmas
mod KindOrder
mod MemberLemmas
mod SpanLemmas
