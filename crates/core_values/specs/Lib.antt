pub mod Restored
pub mod Held
