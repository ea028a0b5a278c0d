pub mod Accesses
pub mod Linked
pub mod Lengths
pub mod Signatures
pub mod Emitting
pub mod Resets
pub mod Sizes
