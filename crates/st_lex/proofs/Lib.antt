mod Numbers
pub mod Durations
pub mod Within
mod Sound
mod Orders
pub mod Decided
pub mod Fronts
