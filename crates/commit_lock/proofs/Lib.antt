mod DriveLemmas
mod EndlessDriveLemmas
mod LogLemmas
mod AckedLemmas
mod LifeLemmas
mod FrontLemmas
mod CauseLemmas
pub mod FindingLemmas
pub mod StartLemmas
pub mod ReplayLemmas
mod AcceptLemmas
