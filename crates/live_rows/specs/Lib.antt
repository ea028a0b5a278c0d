pub mod Lines
pub mod RowLines
