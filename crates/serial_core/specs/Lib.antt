pub mod Steps
pub mod Kept
pub mod Retained
pub mod Quick
