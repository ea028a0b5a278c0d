pub mod LineLemmas
pub mod RowLineLemmas
pub mod ValueLemmas
pub mod LineLaws
pub mod RowLaws
