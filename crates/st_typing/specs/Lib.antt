pub mod Answers
pub mod Selections
pub mod Arguments
pub mod Spans
