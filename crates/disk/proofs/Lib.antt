pub mod MediumLemmas
pub mod Places
pub mod SimLemmas
pub mod ViewLemmas
