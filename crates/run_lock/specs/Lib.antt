pub mod Rising
pub mod Sighting
pub mod Phases
pub mod Answers
pub mod Lives
pub mod Latching
pub mod Own
