pub mod Plants
pub mod Faults
pub mod Records
pub mod ReadFaults
