pub mod InputLemmas
pub mod TrueLemmas
pub mod CommitLemmas
pub mod WindowLemmas
pub mod QuickLemmas
mod QuickParts
