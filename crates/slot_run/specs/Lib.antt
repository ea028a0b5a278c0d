pub mod Runs
pub mod Windows
pub mod Effects
pub mod Executions
pub mod QuickExecutions
pub mod Inputs
pub mod Commits
