pub mod Steps
pub mod Quick
pub mod Samples
pub mod Retained
pub mod Kept
pub mod Lived
pub mod Checkpointed
