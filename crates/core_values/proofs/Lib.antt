pub mod ImageLemmas
pub mod WindowLemmas
pub mod HeldLemmas
