pub mod Outputs
pub mod Cycles
pub mod AnswerLines
pub mod Stamps
pub mod LineFeeds
pub mod TickFeeds
pub mod Serving
