pub mod Lines
pub mod LineExamples
pub mod Pages
