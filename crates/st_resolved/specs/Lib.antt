pub mod Members
pub mod Resolutions
pub mod Calls
pub mod Arms
