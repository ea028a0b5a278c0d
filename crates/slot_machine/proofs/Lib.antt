pub mod Computing
mod Looking
pub mod Marks
pub mod Operating
pub mod Results
pub mod Running
pub mod Stepping
pub mod Tops
