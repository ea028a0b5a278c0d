pub mod Checkpoints
pub mod Compaction
pub mod CheckpointsOfPasts
pub mod Continuation
pub mod Sizes
pub mod Prefixes
pub mod EndlessLives
pub mod CheckpointExamples
