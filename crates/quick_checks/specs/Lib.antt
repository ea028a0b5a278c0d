pub mod Checking
pub mod Choices
pub mod Within
pub mod Members
pub mod Sums
pub mod Targets
