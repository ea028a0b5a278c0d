pub mod Quick
pub mod WordValues
pub mod Sharing
pub mod Codes
pub mod Meanings
pub mod Reads
pub mod Windows
