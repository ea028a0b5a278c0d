pub mod Shown
pub mod Against
pub mod InitialLines
