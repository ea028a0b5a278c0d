mod ProgressLemmas
mod ReportLemmas
mod SettleLemmas
pub mod FindingLemmas
mod CodeLemmas
pub mod LiveCrossing
pub mod LiveLemmas
