mod Memories
pub mod Named
pub mod Filled
mod Beginning
mod Answering
mod Leaving
mod Words
mod Ran
mod Fusing
mod Alike
mod Comparing
