pub mod StepLemmas
pub mod ScaleLemmas
pub mod TextLemmas
