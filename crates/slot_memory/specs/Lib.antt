pub mod TrackedMemories
pub mod Cells
