pub mod Puts
pub mod Texts
pub mod Outcomes
pub mod Reads
pub mod NamedValues
pub mod Heads
pub mod Rests
pub mod Watching
