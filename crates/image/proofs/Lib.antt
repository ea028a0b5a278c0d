pub mod FieldLemmas
pub mod RowLemmas
pub mod HeaderLemmas
pub mod RecordsLemmas
pub mod OrderLemmas
pub mod ReadLemmas
pub mod PlantLemmas
