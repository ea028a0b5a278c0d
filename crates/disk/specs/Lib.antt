pub mod Disk
pub mod Medium
pub mod Runs
pub mod Simulated
