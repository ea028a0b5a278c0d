pub mod Members
pub mod Timers
