pub mod Segments
pub mod Heads
pub mod Positions
pub mod Runs
pub mod Recorders
