mod PlotLemmas
mod RowLemmas
mod ReplayLemmas
pub mod EndLemmas
