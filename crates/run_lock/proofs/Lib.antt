pub mod Gains
mod Moves
pub mod PhaseLemmas
