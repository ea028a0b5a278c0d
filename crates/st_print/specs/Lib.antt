pub mod Spelling
pub mod Numbers
