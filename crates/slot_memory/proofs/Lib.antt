mod Marked
mod SteppedLemmas
pub mod PickedLemmas
