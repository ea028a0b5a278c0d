pub mod Areas
pub mod Recovered
pub mod Surveys
pub mod Kept
pub mod Opening
pub mod Stores
