pub mod Recorded
pub mod Restart
pub mod Cores
pub mod Kept
pub mod Starting
pub mod Flushing
pub mod Started
pub mod Endless
