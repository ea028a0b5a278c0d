pub mod AreaLemmas
pub mod Formats
mod Steps
pub mod Stretches
pub mod Surveys
mod Frames
mod Keeps
mod Quiet
