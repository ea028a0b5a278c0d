pub mod Endings
pub mod SegmentRows
pub mod Jobs
pub mod Sizes
pub mod Statuses
pub mod LiveJobs
