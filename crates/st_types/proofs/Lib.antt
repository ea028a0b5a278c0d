pub mod KindLemmas
pub mod ValueLemmas
pub mod Bridge
pub mod Mirrors
pub mod ListLemmas
pub mod OptionLemmas
pub mod TestLemmas
