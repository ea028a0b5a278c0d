pub mod Driving
pub mod LogsOfLives
pub mod Lives
pub mod Replays
pub mod Starts
