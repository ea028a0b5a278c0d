pub mod PlaceLemmas
pub mod SlotLemmas
pub mod ReadLemmas
pub mod WithoutValues
pub mod PlanReads
