pub mod Lists
pub mod Slots
mod Notings
mod Outside
pub mod Stepping
pub mod Bits
pub mod Operators
pub mod Memories
pub mod Settings
pub mod Elements
pub mod Truths
pub mod Computing
pub mod Reading
pub mod Testing
pub mod Running
pub mod Looping
pub mod Invoking
pub mod Choosing
pub mod Counting
pub mod Statements
pub mod Beginnings
pub mod StandardBlocks
pub mod Calling
pub mod Programs
pub mod Tellings
